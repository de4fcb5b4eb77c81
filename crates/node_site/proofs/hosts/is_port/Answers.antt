use Rattle.std.proofs.Common.{◌≡◌, ℕ, ◌+◌, ◌-◌, ◌*◌, ◌^◌, ◌<◌, ◌≤◌, true, List, length, get_or, take, All, subst, arith, rules, take_all, sym}
use Rattle.url.proofs.InputLemmas.{list_all_from_All}
use Rattle.std.proofs.lemmas.Bool.Decides.{nat_tests}
use Rattle.std.specs.List.{list_all}
use Rattle.std.specs.Char.{is_ascii_digit, digit_value}
use Rattle.std.specs.Str.Parse.{digits_value}
use Rattle.std.proofs.lemmas.Int.Digits.{digits_value_more}
use Rattle.std.proofs.lemmas.List.Elements.{All-more}
use Rattle.url.proofs.NumberLemmas.{digits_value-take-le}
use Rattle.std.proofs.lemmas.Bool.{and_right, le-ltb, lt-ltb}
use Rattle.node_site.proofs.hosts.is_port.Goals as goal

next_value : (ds : List ℕ) (i port : ℕ) → i < length ds → is_ascii_digit (get_or ds i 0) ≡ true → port ≡ digits_value 10 (take i ds)
    → digits_value 10 (take (i + 1) ds) ≡ port * 10 + (get_or ds i 0 - 48)
next_value ds i port inside digit value =
    let worth : digit_value (get_or ds i 0) ≡ get_or ds i 0 - 48 = grind (arith, nat_tests) in
    rw (digits_value_more 10 ds i inside, worth, value)

pub returns-then-port-gt65535 : goal.returns-then-port-gt65535
returns-then-port-gt65535 c =
    let digits = c.args.digits.now in
    let next = next_value digits _ _ c.loop-byte-test.true (search rules) c.loop-byte.invariant.1 in
    let most = digits_value-take-le 10 digits (c.loop-byte.byte-index + 1) (omega arith) in
    let large : 2 ^ 16 ≤ digits_value 10 digits = grind arith in
    sym (and_right (list_all is_ascii_digit digits) _ (le-ltb _ _ large))

pub loop-byte-preserved : goal.loop-byte-preserved
loop-byte-preserved c =
    let digits = c.args.digits.now in
    let next = next_value digits _ _ c.loop-byte-test.true (search rules) c.loop-byte.invariant.1 in
    (All-more (λ b. is_ascii_digit b ≡ true) digits _ 0 c.loop-byte-test.true c.loop-byte.invariant.0 (search rules), grind arith, grind arith)

pub returns : goal.returns
returns c =
    let digits = c.args.digits.now in
    let whole = take_all c.loop-byte.byte-index digits (omega arith) in
    let all = list_all_from_All is_ascii_digit digits (subst (All (λ b. is_ascii_digit b ≡ true)) whole c.loop-byte.invariant.0) in
    let value = rw whole at c.loop-byte.invariant.1 in
    rw (all, ← value, lt-ltb _ _ c.loop-byte.invariant.2)
