-- A header and the payload behind it are the block as written. Assumes nothing.
use Rattle.packet_writing.proofs.Writes.{block_laid}
use Rattle.packet_writing.proofs.put_block.Goals as goal

pub returns : goal.returns
returns c =
    block_laid _ _ _ _ _ _ _ _ c.requires.1 c.requires.2 c.written_header_length-start.ensures c.put_header.ensures c.put_bytes.ensures
