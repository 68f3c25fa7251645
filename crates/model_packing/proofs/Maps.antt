-- What maps of lists make one after the other, and of those elements that pass a test. Assumes nothing.
use mathlib.Core.Path.{◌≡◌, refl, sym, ◌∙◌}
use mathlib.Core.Bool.{Bool, true, false}
use mathlib.Core.List.{List, [], ◌∷◌, ◌++◌, map, flat_map, append_assoc}
use Rattle.model.proofs.Cases.{by_test}
use Rattle.model_packing.specs.Pieces.{those, In, here, there}

module _ {A : Type 0} (test : A → Bool) where
  -- those of two lists, one behind the other
  pub those_append : (l m : List A) → those test (l ++ m) ≡ those test l ++ those test m
  unfolding those
  those_append [] m = refl
  those_append (x ∷ l) m = by_test (test x) (λ e. rw (e, those_append l m)) (λ e. rw (e, those_append l m))

  -- where all pass the test, all are those
  pub those_all : (l : List A) → ((x : A) → In x l → test x ≡ true) → those test l ≡ l
  unfolding those
  those_all [] f = refl
  those_all (x ∷ l) f = rw (f x (here refl), those_all l (λ y i. f y (there i)))

  -- where none does, none are
  pub those_none : (l : List A) → ((x : A) → In x l → test x ≡ false) → those test l ≡ []
  unfolding those
  those_none [] f = refl
  those_none (x ∷ l) f = rw (f x (here refl)) (those_none l (λ y i. f y (there i)))

module _ {A B : Type 0} where
  -- a map of two lists, one behind the other,
  pub map_append : (f : A → B) (l m : List A) → map f (l ++ m) ≡ map f l ++ map f m
  map_append f [] m = refl
  map_append f (x ∷ l) m = rw (map_append f l m)

  -- whose results are lists
  pub flat_map_append : (f : A → List B) (l m : List A) → flat_map f (l ++ m) ≡ flat_map f l ++ flat_map f m
  unfolding flat_map
  flat_map_append f [] m = refl
  flat_map_append f (x ∷ l) m = rw (flat_map_append f l m) (sym (append_assoc (f x) (flat_map f l) (flat_map f m)))

  -- two functions that agree on the elements
  pub flat_map_same : (f g : A → List B) (l : List A) → ((x : A) → In x l → f x ≡ g x) → flat_map f l ≡ flat_map g l
  unfolding flat_map
  flat_map_same f g [] e = refl
  flat_map_same f g (x ∷ l) e = rw (e x (here refl), flat_map_same f g l (λ y i. e y (there i)))

  -- elements that give nothing may be left out
  pub flat_map_those : (f : A → List B) (test : A → Bool) (l : List A) → ((x : A) → test x ≡ false → f x ≡ []) → flat_map f (those test l) ≡ flat_map f l
  unfolding flat_map those
  flat_map_those f test [] e = refl
  flat_map_those f test (x ∷ l) e =
      by_test (test x) (λ t. rw (t, flat_map_those f test l e)) (λ t. rw (t, e x t) (flat_map_those f test l e))

  -- those of what a map makes of elements,
  pub those_map : (test : B → Bool) (f : A → B) (l : List A) → those test (map f l) ≡ map f (those (λ x. test (f x)) l)
  unfolding those
  those_map test f [] = refl
  those_map test f (x ∷ l) = by_test (test (f x)) (λ e. rw (e, those_map test f l)) (λ e. rw (e, those_map test f l))

  -- and of what it makes in lists
  pub those_flat_map : (test : B → Bool) (f : A → List B) (l : List A) → those test (flat_map f l) ≡ flat_map (λ x. those test (f x)) l
  unfolding flat_map those
  those_flat_map test f [] = refl
  those_flat_map test f (x ∷ l) = those_append test (f x) (flat_map f l) ∙ rw (those_flat_map test f l)

-- two maps, one after the other, of which the first makes lists,
module _ {A B C : Type 0} where
  pub map_flat_map : (f : B → C) (g : A → List B) (l : List A) → map f (flat_map g l) ≡ flat_map (λ x. map f (g x)) l
  unfolding flat_map
  map_flat_map f g [] = refl
  map_flat_map f g (x ∷ l) = map_append f (g x) (flat_map g l) ∙ rw (map_flat_map f g l)

  -- or the second,
  pub flat_map_map : (f : B → List C) (g : A → B) (l : List A) → flat_map f (map g l) ≡ flat_map (λ x. f (g x)) l
  unfolding flat_map
  flat_map_map f g [] = refl
  flat_map_map f g (x ∷ l) = rw (flat_map_map f g l)

  -- or both
  pub flat_map_flat_map : (f : B → List C) (g : A → List B) (l : List A) → flat_map f (flat_map g l) ≡ flat_map (λ x. flat_map f (g x)) l
  unfolding flat_map
  flat_map_flat_map f g [] = refl
  flat_map_flat_map f g (x ∷ l) = flat_map_append f (g x) (flat_map g l) ∙ rw (flat_map_flat_map f g l)
