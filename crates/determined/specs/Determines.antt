-- What it is that a contract leaves nothing open: any two results that it allows for the same arguments are equal, and so is all that was lent,
-- refusals too. A contract is a relation of a call's arguments, its result and its parameters at exit. Assumes nothing.
use Rattle.std.specs.Prelude.{◌≡◌, ℕ, List, false, take, Option, Some, Result, IsOk}
use Rattle.std.specs.Borrow.{Bor}
use Rattle.program_streams.specs.declared.Held.{Held}

-- any two results that a contract allows for the same arguments are equal; nothing is lent that the call could change
pub record Determines {A R E : Type 0} (post : A → R → E → Type 0) : Type 0 where
  pub result : (a : A) (r q : R) (e f : E) → post a r e → post a q f → r ≡ q

-- and so are the final contents of all that was lent, which `lent` finds among the parameters at exit
pub record DeterminesLent {A R E X : Type 0} (lent : E → X) (post : A → R → E → Type 0) : Type 0 where
  pub result : (a : A) (r q : R) (e f : E) → post a r e → post a q f → r ≡ q
  pub contents : (a : A) (r q : R) (e f : E) → post a r e → post a q f → lent e ≡ lent f

-- a result that is a part of the caller's own bytes: what the part holds
pub record DeterminesPart {A E X : Type 0} (post : A → Bor X → E → Type 0) : Type 0 where
  pub part : (a : A) (r q : Bor X) (e f : E) → post a r e → post a q f → r.now ≡ q.now

-- A call that reads and writes can fail at any byte, and then what it leaves is not settled. `input` and `output` find the bytes of what it reads and
-- of what it writes, where they are known, among its arguments, and the others find what it leaves among the parameters at exit.
module _ {A E S F : Type 0} (input output : A → Option (List ℕ)) (unread written : E → Option (List ℕ)) (buf : E → List ℕ) (held : E → Held) (state : E → S)
    (post : A → Result (Unit {0}) F → E → Type 0) where
  -- two results that a contract allows for the same arguments, each of a call that came to the end of what it reads or stopped, where the bytes of the
  -- input are known, and the same of them are left
  pub record Alike (a : A) (r q : Result (Unit {0}) F) (e f : E) : Type 0 where
    pub first : post a r e
    pub second : post a q f
    pub first_ok : IsOk r
    pub second_ok : IsOk q
    pub first_ended : (held e).going ≡ false
    pub second_ended : (held f).going ≡ false
    pub known : (bytes : List ℕ) × (input a ≡ Some bytes)
    pub same_left : unread e ≡ unread f

  -- are equal, and so are what is held, the bytes that wait at the front of the buffer and what the program has, and, where it is known what the
  -- output held, what it holds
  pub record DeterminesRun : Type 0 where
    pub result : (a : A) (r q : Result (Unit {0}) F) (e f : E) → Alike a r q e f → r ≡ q
    pub place : (a : A) (r q : Result (Unit {0}) F) (e f : E) → Alike a r q e f → held e ≡ held f
    pub waiting : (a : A) (r q : Result (Unit {0}) F) (e f : E) → Alike a r q e f → take (held e).have (buf e) ≡ take (held f).have (buf f)
    pub left : (a : A) (r q : Result (Unit {0}) F) (e f : E) → Alike a r q e f → state e ≡ state f
    pub handed_out : (a : A) (r q : Result (Unit {0}) F) (e f : E) → Alike a r q e f → (bytes : List ℕ) × (output a ≡ Some bytes) → written e ≡ written f
