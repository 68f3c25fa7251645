-- What a CEA-608 byte pair is in the model: its field, and its two bytes. Assumes nothing.
use Rattle.model.specs.Frame as frame
use Rattle.caption.specs.declared.Cea608.{Cea608}
use Rattle.caption.specs.declared.Cea608.TheVariants.{Field1, Field2}

-- the pair with its field [F14]
abbrev pub cea608_of : Cea608 → frame.Cea608
cea608_of (Field1 a b) = frame.field1 (frame.pair a b)
cea608_of (Field2 a b) = frame.field2 (frame.pair a b)
