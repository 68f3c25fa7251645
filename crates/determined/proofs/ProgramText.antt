-- The functions that lay text. Assumes nothing.
use mathlib.Core.Path.{sym, ◌∙◌}
use mathlib.Core.List.{List}
use Prim.Native.Nat.{ℕ}
use contract.Lifetimes.{Lfts}
use Rattle.program_text.specs.Laid.{Laid}
use Rattle.program_text.proofs.put_byte.Reads as PutByteReads
use Rattle.program_text.proofs.put_newline.Reads as PutNewlineReads
use Rattle.program_text.proofs.put_word.Reads as PutWordReads
use Rattle.program_text.proofs.put_hex_byte.Reads as PutHexByteReads
use Rattle.program_text.proofs.put_hex.Reads as PutHexReads
use Rattle.program_text.proofs.put_decimal.Reads as PutDecimalReads
use Rattle.determined.specs.Determines.{DeterminesLent}

module _ {A E : Type 0} {lent : E → List ℕ} where
  -- text laid into a lent buffer, and the place behind it
  pub lays : {text before : A → List ℕ} {at : A → ℕ} → DeterminesLent lent (λ (a : A) (r : ℕ) (e : E). Laid (text a) (before a) (at a) r (lent e))
  lays = record { result = λ a r q e f h k. h.place ∙ sym k.place; contents = λ a r q e f h k. h.bytes ∙ sym k.bytes }

-- `put_byte(out, at, byte)`
pub put_byte : (κs : Lfts 1) → DeterminesLent (λ e. e.0.now) (PutByteReads.Post κs)
put_byte κs = lays

-- `put_newline(out, at)`
pub put_newline : (κs : Lfts 1) → DeterminesLent (λ e. e.0.now) (PutNewlineReads.Post κs)
put_newline κs = lays

-- `put_word(out, at, word)`
pub put_word : (κs : Lfts 2) → DeterminesLent (λ e. e.0.now) (PutWordReads.Post κs)
put_word κs = lays

-- `put_hex_byte(out, at, byte)`
pub put_hex_byte : (κs : Lfts 1) → DeterminesLent (λ e. e.0.now) (PutHexByteReads.Post κs)
put_hex_byte κs = lays

-- `put_hex(out, at, bytes)`
pub put_hex : (κs : Lfts 2) → DeterminesLent (λ e. e.0.now) (PutHexReads.Post κs)
put_hex κs = lays

-- `put_decimal(out, at, n)`
pub put_decimal : (κs : Lfts 1) → DeterminesLent (λ e. e.0.now) (PutDecimalReads.Post κs)
put_decimal κs = lays
