-- IPv4 addresses: what a text that parses to one is, and that no other parses.
use Rattle.std.proofs.Common.{◌≡◌, ℕ, true, ◌==◌, List, [], ◌++◌, length, Some, None, sym, ap, ◌∙◌, subst, ⊎_elim, append-nil, arith, lit≤}
use Rattle.std.proofs.lemmas.Bool.{cases_Bool}
use Rattle.std.proofs.lemmas.Bool.Decides.{nat_tests}
use Rattle.std.proofs.lemmas.List.{nil_from_length}
use Rattle.std.specs.Net.Grammar.{IsDotted}
use Rattle.std.specs.Net.Reader.{whole_value, read_ipv4}
use Rattle.std.proofs.NetLemmas.Ipv4.{read_ipv4_complete, read_ipv4_sound}
use Rattle.url.proofs.PiecesLemmas.{option_cases}

pub whole_ipv4 : (text octets : List ℕ) → IsDotted text octets → whole_value (read_ipv4 text) ≡ Some octets
whole_ipv4 text octets spelled =
    ap whole_value (ap read_ipv4 (sym (append-nil text)) ∙ read_ipv4_complete text octets [] spelled (lit≤ tt))

-- what was read up to the end
at_end : (text octets rest : List ℕ) → read_ipv4 text ≡ Some (octets, rest) → (length rest == 0) ≡ true → IsDotted text octets
at_end text octets rest read ended =
    let (front, split, dotted) = read_ipv4_sound text octets rest read in
    subst (λ t. IsDotted t octets) (sym (split ∙ ap (λ r. front ++ r) (nil_from_length rest (grind (arith, nat_tests))) ∙ append-nil front)) dotted

pub no_ipv4 : (text : List ℕ) → ((octets : List ℕ) → ¬ (IsDotted text octets)) → whole_value (read_ipv4 text) ≡ None
no_ipv4 text never =
    ⊎_elim
    (λ none. ap whole_value none)
    (λ some.
    ap whole_value some.1 ∙ ⊎_elim
    (λ ended. absurd (never some.0.0 (at_end text some.0.0 some.0.1 some.1 ended)))
    (λ more. rw more)
    (cases_Bool (length some.0.1 == 0)))
    (option_cases (read_ipv4 text))

pub dotted_from_whole : (text octets : List ℕ) → whole_value (read_ipv4 text) ≡ Some octets → IsDotted text octets
dotted_from_whole text octets e =
    ⊎_elim
    (λ none. let f : None ≡ Some octets = sym (ap whole_value none) ∙ e in cc)
    (λ some.
    let read = some.1 in
    let same = sym (ap whole_value read) ∙ e in
    ⊎_elim
    (λ ended. let is : some.0.0 ≡ octets = let k = rw ended at same in cc k in subst (IsDotted text) is (at_end text some.0.0 some.0.1 read ended))
    (λ more. let k = rw more at same in cc k)
    (cases_Bool (length some.0.1 == 0)))
    (option_cases (read_ipv4 text))
