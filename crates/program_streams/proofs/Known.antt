-- Bytes of an input and of an output that are known: none, and some behind others. Assumes nothing.
use Rattle.std.proofs.Common.{ℕ, List, [], ◌++◌, sym, refl, ap, ◌∙◌, append_assoc, append-nil}
use Rattle.std.specs.Prelude.{Option, None, Some}
use Rattle.std.specs.Io.KnownBytes.{Consumes, Appends}

pub appends_none : (a : Option (List ℕ)) → Appends a a []
appends_none None = tt
appends_none (Some x) = sym (append-nil x)

pub appends_both : (a b c : Option (List ℕ)) (s t : List ℕ) → Appends a b s → Appends b c t → Appends a c (s ++ t)
appends_both None b c s t f g = tt
appends_both (Some x) None c s t f g = absurd f
appends_both (Some x) (Some y) None s t f g = absurd g
appends_both (Some x) (Some y) (Some z) s t f g = g ∙ rw f (append_assoc x s t)

pub consumes_none : (a : Option (List ℕ)) → Consumes a a []
consumes_none None = tt
consumes_none (Some x) = refl

pub consumes_both : (a b c : Option (List ℕ)) (s t : List ℕ) → Consumes a b s → Consumes b c t → Consumes a c (s ++ t)
consumes_both None b c s t f g = tt
consumes_both (Some x) None c s t f g = absurd f
consumes_both (Some x) (Some y) None s t f g = absurd g
consumes_both (Some x) (Some y) (Some z) s t f g = f ∙ ap (λ (l : List ℕ). s ++ l) g ∙ sym (append_assoc s t z)
