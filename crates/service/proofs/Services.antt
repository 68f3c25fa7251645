-- What the calls of a `Service` give, by each way out of them. Assumes nothing.
use mathlib.Core.Path.{◌≡◌, refl, sym, ap, ◌∙◌}
use mathlib.Core.Bool.{Bool, true, false, cond, not, ◌&&◌, ◌||◌}
use mathlib.Core.List.{List, [], ◌++◌}
use Prim.Native.Nat.{ℕ, ◌+◌, ◌-◌, ◌%◌, ◌≤◌, ◌<◌}
use native.Mathlib.Nat.{zero-add}
use native.Mathlib.Omega.{arith}
use lib.Dec.{eqb, leb, ltb}
use lib.ListN.{length, take, drop, replicate, length-append, length-take, length-drop, length-replicate}
use lib.Seq.{sets, take_at, length-take-le}
use borrow.Author.Tests.{eq-eqb, ne_eqb, le-leb, lt-leb, lt-ltb, le-ltb, leb-true, eqb-true}
use Rattle.model.specs.Said.{gave, refused, put_into, bad_number, bad_run, read_only, would_overflow, out_short}
use Rattle.model.specs.Block.{Block, valid_block, new_block, read_block_at, read_block, block_in, push_to_block, with_run, written_header, written_block, block_length}
use Rattle.model.proofs.Cases.{by_test, both}
use Rattle.model.proofs.Blocks.{written_length}
use Rattle.service.specs.declared.Service.{Service}
use Rattle.service_headers.specs.Head.{length_for}
use Rattle.service.specs.Service.{block_of, over, blank, valid_service, asked, pushed, written}
use Rattle.basics.proofs.Runs.{sets_front, sets_behind}
use Rattle.service_headers.proofs.Heads.{Headed, length_of, laid_block}

-- a block and the places that it is laid in
pub laid_as : (n k : ℕ) (p q : List ℕ) → length q ≡ k → p ≡ sets (replicate 31 0) 0 q
    → ◌≡◌ {A = Service} (record { number = n; len = k; payload = p }) (over blank (record { number = n; payload = q }))
laid_as n k p q e f = rw (← e, f)

-- a block laid over any places is the block that they hold
pub over_means : (old : Service) (b : Block) → length old.payload ≡ 31 → length b.payload ≤ 31 → block_of (over old b) ≡ b
over_means old b places h =
    let e : take (length b.payload) (sets old.payload 0 b.payload) ≡ b.payload =
    rw (sets_front old.payload b.payload (omega arith)) (take_at b.payload _ (length b.payload) refl) in
    ap (λ (p : List ℕ). record { number = b.number; payload = p }) e

-- the empty places are as many
pub blank_places : length blank.payload ≡ 31
blank_places = length-replicate {A = ℕ} 31 0

-- a new block
pub new_bad : (n : ℕ) → 63 < n → new_block n ≡ refused bad_number
unfolding new_block
new_bad n h = simp (lt-ltb _ _ h)

-- any other number makes one
pub new_good : (n : ℕ) → n ≤ 63 → new_block n ≡ gave (record { number = n; payload = [] })
unfolding new_block
new_good n h = simp (le-ltb _ _ h)

-- a block within the limits, as facts
pub record Facts (b : Block) : Type 0 where
  pub known : b.number ≤ 63
  pub small : length b.payload ≤ 31
  pub null : b.number ≡ 0 → length b.payload ≡ 0

pub block_facts : (b : Block) → valid_block b ≡ true → Facts b
unfolding valid_block
block_facts b e =
    let n : ℕ = b.number in
    let k : ℕ = length b.payload in
    let v = both (leb n 63 && leb k 31) (not (eqb n 0) || eqb k 0) e in
    let w = both (leb n 63) (leb k 31) v.0 in
    record {
      known = leb-true n 63 w.0;
      small = leb-true k 31 w.1;
      null = λ z. let q : eqb k 0 ≡ true = simp (eq-eqb n 0 z) at v.1 in eqb-true k 0 q;
    }

-- the test of the limits, in its order
module _ (s : Service) where
  -- a number above 63 fails it
  pub over_number : 63 < s.number → false ≡ valid_service s
  unfolding valid_service valid_block
  over_number h = by_test (leb s.len 31) (λ e. simp (e, lt-leb _ _ h)) (λ e. simp e)

  -- a length above 31 fails it
  pub over_length : 31 < s.len → false ≡ valid_service s
  unfolding valid_service
  over_length h = simp (lt-leb _ _ h)

  -- within its places the payload has at most 31 bytes
  taken_few : s.len ≤ 31 → length (take s.len s.payload) ≤ 31
  taken_few h = omega (arith, length-take s.len s.payload)

  -- number 0 passes without payload
  pub null_valid : length s.payload ≡ 31 → s.number ≤ 63 → s.len ≤ 31 → s.number ≡ 0 → eqb s.len 0 ≡ valid_service s
  unfolding valid_service valid_block
  null_valid places k h z =
      let n : length (take s.len s.payload) ≡ s.len = length-take-le s.len s.payload (omega arith) in
      simp (n, le-leb _ _ k, le-leb _ _ h, eq-eqb _ _ z)

  -- any other number passes
  pub named_valid : s.number ≤ 63 → s.len ≤ 31 → (s.number ≡ 0 → ⊥) → true ≡ valid_service s
  unfolding valid_service valid_block
  named_valid k h z = simp (le-leb _ _ k, le-leb _ _ h, le-leb _ _ (taken_few h), ne_eqb _ _ z)

  -- what passes it
  valid_parts : valid_service s ≡ true → (leb s.len 31 ≡ true) × (valid_block (block_of s) ≡ true)
  unfolding valid_service
  valid_parts e = both (leb s.len 31) (valid_block (block_of s)) e

  -- the block breaks no limit
  pub valid_block_of : valid_service s ≡ true → valid_block (block_of s) ≡ true
  valid_block_of e = (valid_parts e).1

  -- the number is at most 63
  pub valid_number : valid_service s ≡ true → s.number ≤ 63
  valid_number e = (block_facts (block_of s) (valid_block_of e)).known

  -- the length is at most 31
  pub valid_len : valid_service s ≡ true → s.len ≤ 31
  valid_len e = leb-true _ _ (valid_parts e).0

  -- number 0 has no payload
  pub valid_null : length s.payload ≡ 31 → valid_service s ≡ true → s.number ≡ 0 → s.len ≡ 0
  valid_null places e z =
      let n : length (take s.len s.payload) ≡ s.len = length-take-le s.len s.payload (omega (arith, valid_len e)) in
      sym n ∙ (block_facts (block_of s) (valid_block_of e)).null z

-- a block whose payload has its 31 places, and what the test of its limits answered
module _ (s : Service) (v : Bool) (is : v ≡ valid_service s) where
  -- the length is at most 31
  pub small_len : v ≡ true → s.len ≤ 31
  small_len e = valid_len s (sym is ∙ e)

  module _ (places : length s.payload ≡ 31) where
    -- the payload is as long as the block says
    pub payload_length : v ≡ true → length (take s.len s.payload) ≡ s.len
    payload_length e = length-take-le s.len s.payload (omega (arith, small_len e))

    -- how long it is written
    pub payload_written : v ≡ true → length (written_block (block_of s)) ≡ cond (ltb s.number 7) 1 2 + s.len
    payload_written e = written_length (block_of s) ∙ ap (λ n. cond (ltb s.number 7) 1 2 + n) (payload_length e)

    -- the length of the block, by its number and its length alone
    pub length_for_block : v ≡ true → length_for s.number s.len ≡ block_length (block_of s)
    length_for_block e = sym (length_of (block_of s) ∙ ap (length_for s.number) (payload_length e))

    -- a run pushed, in the order of the refusals
    module _ (run : List ℕ) where
      module _ (e : v ≡ true) where
        -- 7: the run has no bytes
        pub push_empty : length run ≡ 0 → pushed run s ≡ refused bad_run
        unfolding push_to_block
        push_empty z = rw (← is, e) (simp (eq-eqb _ _ z))

        -- 4: the run is for service 0
        pub push_null : (length run ≡ 0 → ⊥) → s.number ≡ 0 → pushed run s ≡ refused read_only
        unfolding push_to_block
        push_null n z = rw (← is, e) (simp (ne_eqb _ _ n, eq-eqb _ _ z))

        -- 3: the run does not fit
        pub push_over : (length run ≡ 0 → ⊥) → (s.number ≡ 0 → ⊥) → 31 - s.len < length run → pushed run s ≡ refused (would_overflow (length run - (31 - s.len)))
        unfolding push_to_block
        push_over n m h = rw (← is, e) (simp (ne_eqb _ _ n, ne_eqb _ _ m, payload_length e, lt-ltb _ _ h))

        -- accepted: the run stands behind the payload
        pub push_fits : (length run ≡ 0 → ⊥) → (s.number ≡ 0 → ⊥) → length run ≤ 31 - s.len → pushed run s ≡ gave (with_run run (block_of s))
        unfolding push_to_block
        push_fits n m h = rw (← is, e) (simp (ne_eqb _ _ n, ne_eqb _ _ m, payload_length e, le-ltb _ _ h))

        -- which is as long as both
        grown_length : length (take s.len s.payload ++ run) ≡ s.len + length run
        grown_length = length-append (take s.len s.payload) run ∙ ap (λ n. n + length run) (payload_length e)

        pub push_small : length run ≤ 31 - s.len → length (take s.len s.payload ++ run) ≤ 31
        push_small h = omega (arith, grown_length, small_len e)

        -- the block with the run is laid over its own places by laying the run behind its payload
        pub pushed_as : (p : List ℕ) → p ≡ sets s.payload s.len run
            → ◌≡◌ {A = Service} (record { number = s.number; len = s.len + length run; payload = p }) (over s (with_run run (block_of s)))
        pushed_as p q =
            let b : sets s.payload 0 (take s.len s.payload ++ run) ≡ sets s.payload s.len run = sets_behind s.payload run s.len (omega (arith, small_len e)) in
            rw (q, grown_length, b)

    -- a block written, in the order of the refusals
    module _ (out : List ℕ) where
      -- 9: the output is too short
      pub write_short : (start : ℕ) → v ≡ true → start ≡ cond (ltb s.number 7) 1 2 → length out < start + s.len
          → written s out ≡ refused (out_short (start + s.len))
      unfolding put_into
      write_short start e q h =
          let n : length (written_block (block_of s)) ≡ start + s.len = payload_written e ∙ ap (λ k. k + s.len) (sym q) in
          let t : ltb (length out) (start + s.len) ≡ true = lt-ltb _ _ h in
          rw (← is, e, n, t)

      -- accepted: header and payload stand at the front of the output
      pub write_fits : (now : List ℕ) (start : ℕ) → v ≡ true → start ≡ cond (ltb s.number 7) 1 2 → start + s.len ≤ length out
          → now ≡ sets (sets out 0 (written_header s.number (s.len % 32))) start (take s.len s.payload) → written s out ≡ gave now
      unfolding put_into
      write_fits now start e q h k =
          let n : length (written_block (block_of s)) ≡ start + s.len = payload_written e ∙ ap (λ k. k + s.len) (sym q) in
          let t : ltb (length out) (start + s.len) ≡ false = le-ltb _ _ h in
          let m : s.len % 32 ≡ length (take s.len s.payload) = omega (arith, small_len e, payload_length e) in
          let l : sets (sets out 0 (written_header s.number (s.len % 32))) start (take s.len s.payload) ≡ sets out 0 (written_block (block_of s)) =
          ap (λ j. sets (sets out 0 (written_header s.number (s.len % 32))) j (take s.len s.payload)) (sym (zero-add start)) ∙ laid_block (block_of s) out 0 start (s.len % 32) q m in
          let f = sets_front out (written_block (block_of s)) (omega (arith, n, h)) in
          rw (← is, e, n, t) (ap gave (sym (k ∙ l ∙ rw n at f)))

-- its length
pub asked_length : (s : Service) → length s.payload ≡ 31 → (n : ℕ) → valid_service s ≡ true → n ≡ length_for s.number s.len → gave n ≡ asked s block_length
asked_length s places n e q = rw e (ap gave (q ∙ length_for_block s _ refl places e))

-- a block read, whose header is there
module _ (d : List ℕ) (n st sz : ℕ) (h : Headed d n st sz) where
  -- number 0
  pub parse_null : n ≡ 0 → read_block d ≡ gave (record { number = 0; payload = [] })
  unfolding read_block_at block_in
  parse_null z = simp (h.whole, h.number, z)

  -- any other number
  pub parse_some : (n ≡ 0 → ⊥) → read_block d ≡ gave (record { number = n; payload = take sz (drop st d) })
  unfolding read_block_at block_in
  parse_some z = simp (h.whole, h.number, ne_eqb n 0 z, h.start, h.size)

  -- its payload is as long as the header says
  pub part_length : length (take sz (drop st d)) ≡ sz
  part_length = length-take-le sz (drop st d) (rw length-drop (omega (arith, h.fits)))
