-- What a CEA-608 byte pair is in the model tells which pair it is. Assumes nothing.
use mathlib.Core.Path.{refl}
use mathlib.Mathlib.Logic.Function.Defs.{Injective, LeftInverse, LeftInverse-Injective}
use Rattle.model.specs.Frame as frame
use Rattle.caption.specs.Pairs.{cea608_of}
use Rattle.caption.specs.declared.Cea608.{Cea608}
use Rattle.caption.specs.declared.Cea608.TheVariants.{Field1, Field2}

-- the pair taken back from the model's
abbrev cea608_from : frame.Cea608 → Cea608
cea608_from (frame.field1 (frame.pair a b)) = Field1 a b
cea608_from (frame.field2 (frame.pair a b)) = Field2 a b

-- it is the pair that it was
cea608_again : LeftInverse cea608_from cea608_of
cea608_again (Field1 a b) = refl
cea608_again (Field2 a b) = refl

-- no two pairs are the same in the model
pub cea608_of_injective : Injective cea608_of
cea608_of_injective = LeftInverse-Injective cea608_from cea608_of cea608_again
