-- A header alone is a good file.
use Rattle.std.proofs.Common.{◌≡◌, ℕ, Bool, true, false, ◌&&◌, List, [], ◌∷◌, None, refl, arith, lit≤}
use Rattle.std.proofs.lemmas.Bool.Decides.{nat_tests}
use Rattle.std.proofs.lemmas.Str.{is_utf8-from_IsUtf8, IsUtf8-from_ascii}
use Rattle.std.proofs.lemmas.Str.Ascii.{IsAscii-nil, IsAscii-cons}
use Rattle.std.specs.Prelude.{nat_lt}
use Rattle.std.specs.List.{list_all}
use Rattle.std.specs.Str.{IsAscii, is_utf8}
use Rattle.feed_kbart.specs.Files.{bad_of}
use Rattle.feed_model.specs.File.{fault_of}
use Rattle.feed_fetch.specs.Effects.{IsFetchable}
use Rattle.feed_fetch.specs.GoodFiles.{header_alone}

both : (p q : Bool) → (p && q) ≡ true → (p ≡ true) × (q ≡ true)
both true q e = (refl, e)
both false q e = absurd (cc)

IsAscii-tested : (bytes : List ℕ) → list_all (λ b. nat_lt b 128) bytes ≡ true → IsAscii bytes
IsAscii-tested [] e = IsAscii-nil
IsAscii-tested (b ∷ bytes) e =
    let tests = both (nat_lt b 128) (list_all (λ b. nat_lt b 128) bytes) e in
    IsAscii-cons b bytes (grind (arith, nat_tests, tests.0)) (IsAscii-tested bytes tests.1)

good : fault_of header_alone ≡ None
unfolding fault_of bad_of
good =
    let ascii : IsAscii header_alone = IsAscii-tested header_alone refl in
    let utf8 : is_utf8 header_alone ≡ true = is_utf8-from_IsUtf8 header_alone (IsUtf8-from_ascii header_alone ascii) in
    rw utf8 refl

pub IsFetchable-header_alone : IsFetchable header_alone
IsFetchable-header_alone = record { small = lit≤ tt; good = good }
