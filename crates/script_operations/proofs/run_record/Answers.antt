-- The block is asked, then the packet, then the machines. Assumes nothing.
use mathlib.Core.Path.{refl}
use Prim.Native.Nat.{◌-◌}
use lib.ListN.{length, take, drop, get_or}
use Rattle.script_answers.specs.Rows.{sought}
use Rattle.script_blocks.specs.Blocks.{block_rows}
use Rattle.script_codes.specs.Operations.{codes_rows}
use Rattle.script_operations.specs.Ran.{with_block, with_packet, operated}
use Rattle.script_operations.proofs.Records.{done_by, passed_by, as_before, ran_by, ran_none}
use Rattle.script_operations.proofs.run_record.Goals as goal

pub returns-in-Some : goal.returns-in-Some
unfolding operated
returns-in-Some c =
    let m = c.args.m.now in
    let l = c.args.record.now in
    let of_block = sought (block_rows m.s) (get_or l 0 0) (take (length l - 1) (drop 1 l)) in
    rw (ran_by m l c.in-len1-up.len_at_least) (done_by (with_block m) m.s _ _ _ _ of_block _ _ c.on_block.ensures c.in-Some.is)

pub returns-in-Some-on_codes : goal.returns-in-Some-on_codes
unfolding operated
returns-in-Some-on_codes c =
    let m = c.args.m.now in
    let l = c.args.record.now in
    let of_block = sought (block_rows m.s) (get_or l 0 0) (take (length l - 1) (drop 1 l)) in
    let same = as_before m.s _ _ _ _ of_block _ c.on_block.ensures c.in_default-on_block.not-Some in
    let of_packet = sought (codes_rows m.s m.p) (get_or l 0 0) (take (length l - 1) (drop 1 l)) in
    rw (ran_by m l c.in-len1-up.len_at_least, same)
    (passed_by (with_block m) m.s _ _ _ _ of_block _ _ c.on_block.ensures c.in_default-on_block.not-Some
    (done_by (with_packet m) m.p _ _ _ _ of_packet _ _ (rw same at c.on_codes.ensures) c.in-Some-on_codes.is))

pub returns-in_default : goal.returns-in_default
returns-in_default c = rw (ran_none c.args.m.now c.args.record.now c.in_default.len_below) (record { told = c.put_bad_line.ensures; left = refl })

pub returns : goal.returns
unfolding operated
returns c =
    let m = c.args.m.now in
    let l = c.args.record.now in
    let of_block = sought (block_rows m.s) (get_or l 0 0) (take (length l - 1) (drop 1 l)) in
    let same = as_before m.s _ _ _ _ of_block _ c.on_block.ensures c.in_default-on_block.not-Some in
    let of_packet = sought (codes_rows m.s m.p) (get_or l 0 0) (take (length l - 1) (drop 1 l)) in
    let tried = rw same at c.on_codes.ensures in
    let same_packet = as_before m.p _ _ _ _ of_packet _ tried c.in_default-on_codes.not-Some in
    rw (ran_by m l c.in-len1-up.len_at_least)
    (passed_by (with_block m) m.s _ _ _ _ of_block _ _ c.on_block.ensures c.in_default-on_block.not-Some
    (passed_by (with_packet m) m.p _ _ _ _ of_packet _ _ tried c.in_default-on_codes.not-Some
    (rw (same, same_packet) at c.run_on_machines.ensures)))
