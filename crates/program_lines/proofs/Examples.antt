-- The example of what `ccread` prints [C2], and lines of `ccscript`. Assumes nothing.
use mathlib.Core.Path.{◌≡◌, refl}
use mathlib.Core.List.{[], ◌∷◌, ◌++◌, map}
use Rattle.model.specs.Said.{accepted, cea608_after_cea708, out_short, bad_value, frame_length_wrong, block_body_short}
use Rattle.model.specs.Frame.{pair, field1}
use Rattle.program_text.specs.Text.{word, digit, decimal_in, decimal, run}
use Rattle.program_lines.specs.Lines.{value_text, values_text, run_text, block_text, answer_text, pair_text, packet_text, frame_line, block_line, end_line, stopped_line}

-- what the record CC DA 0B C3 FF FC 94 2C FF 82 21 FE 41 00 prints
read_example : frame_line 0 (accepted [])
    ++ pair_text (field1 (pair 0x94 0x2C))
    ++ word "\n"
    ++ packet_text 2
    ++ word "\n"
    ++ block_line 1 (0x41 ∷ [])
    ++ end_line 1
    ≡ word "frame 0 ok\nfield1 942C\npacket 2\nblock 1 41\nend 1\n"
unfolding frame_line pair_text packet_text block_line end_line decimal decimal_in digit
read_example = refl

-- a refused frame, and input that stops
stopped_example : frame_line 3 (frame_length_wrong 8 5) ++ stopped_line 1205 ≡ word "frame 3 refused 12\nstopped at byte 1205\n"
unfolding frame_line stopped_line decimal decimal_in digit
stopped_example = refl

-- answers with their values
answers_example : map answer_text (accepted [] ∷ accepted (128 ∷ []) ∷ block_body_short 2 1 3 ∷ cea608_after_cea708 3 ∷ out_short 95 ∷ bad_value ∷ [])
    ≡ word "ok" ∷ word "ok 128" ∷ word "refused 15 2 1 3" ∷ word "refused 2 3" ∷ word "refused 9 95" ∷ word "refused 11" ∷ []
unfolding answer_text values_text value_text decimal decimal_in digit
answers_example = refl

-- runs and blocks behind an answer
runs_example : word "ok" ++ run_text [] ++ run_text (0x0A ∷ 0xFF ∷ []) ++ block_text 63 (0x41 ∷ []) ≡ word "ok - 0AFF 63:41"
unfolding run_text block_text value_text run decimal decimal_in digit
runs_example = refl
