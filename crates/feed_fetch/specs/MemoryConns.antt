-- The contracts of a connection to a server in memory.
use Rattle.std.specs.Prelude.{◌≡◌, ℕ, Bool, true, false, List, [], length, Option, Some, None, IsSomeAnd, refl}
use Rattle.std.proofs.Common.{subst, arith, ap, length-append}
use Rattle.httparse.specs.Grammar.{print_request}
use Rattle.feed_http.specs.Shelves.{Files}
use Rattle.feed_fetch.specs.Servers.{IsServed}

-- what was written, as long as nothing was read
abbrev pub unless_read : Bool → List ℕ → Option (List ℕ)
unless_read true written = None
unless_read false written = Some written

-- if what was written is known, the rest to read is the response to it
pub IsSomeAnd-unless_read : (is_read : Bool) (written reply text : List ℕ) (files : Files) → (is_read ≡ false → IsServed files written reply)
    → unless_read is_read written ≡ Some text → IsSomeAnd (Some reply) (IsServed files text)
IsSomeAnd-unless_read true written reply text files replied is = absurd (cc)
IsSomeAnd-unless_read false written reply text files replied is =
    let same : written ≡ text = cc in
    subst (λ (t : List ℕ). IsServed files t reply) same (replied refl)

-- an empty text does not begin with the head of a request
pub IsServed-nothing : (files : Files) (reply : List ℕ) → IsServed files [] reply
unfolding print_request
IsServed-nothing files reply head named begins of =
    absurd (let e = simp length-append at (ap length begins.reads.1) in omega (arith, e))
