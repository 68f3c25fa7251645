-- What the durations are beside the exact times, and what the bytes are that they measure. Assumes nothing.
use mathlib.Core.Path.{◌≡◌}
use mathlib.Core.List.{List, [], ◌∷◌, ◌++◌}
use Prim.Native.Nat.{ℕ, ◌+◌, ◌-◌, ◌*◌, ◌/◌, ◌^◌, ◌≤◌, ◌<◌}
use native.Mathlib.Nat.{lt-div-mul-add, div-mul-le_self}
use native.Mathlib.Omega.{arith}
use Rattle.model.specs.Packet.{Packet}
use Rattle.model.specs.Duration.{ceil, pairs_duration, lengths_of, bytes_duration}

-- m is the least number not below a / b
pub record Upward (a b m : ℕ) : Type 0 where
  pub enough : a ≤ m * b
  pub least : m * b < a + b

-- `ceil` is that number
pub ceil_upward : (a b : ℕ) → 0 < b → Upward a b (ceil a b)
unfolding ceil
ceil_upward a b h =
    let q : ℕ = (a + (b - 1)) / b in
    let low : q * b ≤ a + (b - 1) = div-mul-le_self (a + (b - 1)) b in
    let high : a + (b - 1) < q * b + b = lt-div-mul-add {a = a + (b - 1)} {b = b} h in
    record { enough = omega arith; least = omega arith }

-- a pair takes 1001 / 60000 of a second
pub pairs_time : (n : ℕ) → Upward (n * (1001 * 10 ^ 6)) 60000 (pairs_duration n)
unfolding pairs_duration
pairs_time n = ceil_upward (n * (1001 * 10 ^ 6)) 60000 (omega arith)

-- bytes leave at 1200000 / 1001 a second: a duration is not below that time, and above it by less than one byte's time and a microsecond
pub record Tight (bytes micros : ℕ) : Type 0 where
  pub enough : bytes * (1001 * 10 ^ 6) ≤ micros * 1200000
  pub close : micros * 1200000 < (bytes + 1) * (1001 * 10 ^ 6) + 1200000

-- the duration of bytes is that close
pub bytes_time : (bytes : ℕ) → Tight bytes (bytes_duration bytes)
unfolding bytes_duration
bytes_time bytes =
    let u = ceil_upward ((bytes + 1) / 2 * (2002 * 10 ^ 6)) 1200000 (omega arith) in
    record { enough = omega (arith, u.enough); close = omega (arith, u.least) }

-- the sum of lengths [D3] is over the packets one by one
pub lengths_append : (ps qs : List Packet) → lengths_of (ps ++ qs) ≡ lengths_of ps + lengths_of qs
unfolding lengths_of
lengths_append [] qs = omega arith
lengths_append (p ∷ ps) qs = omega (arith, lengths_append ps qs)
