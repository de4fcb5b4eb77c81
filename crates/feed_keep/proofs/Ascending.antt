-- Lists that ascend, and the names of records.
use Rattle.std.proofs.Common.{◌≡◌, ℕ, List, [], ◌∷◌, map, refl, ap, arith}
use Rattle.std.specs.List.{AllPairs}
use Rattle.std.specs.List.Sorted.{IsStrictlySortedBy}
use Rattle.std.specs.Cmp.{IsTotalOrder}
use Rattle.std.specs.Cmp.Lexicographic.{slice_cmp}
use Rattle.std.specs.Ordering.{nat_cmp, on}
use Rattle.std.specs.declared.cmp.Ordering.{Ordering}
use Rattle.std.specs.declared.cmp.Ordering.TheVariants.{Less}
use Rattle.std.proofs.lemmas.Cmp.{nat_list_cmp_total, on_total}
use Rattle.std.proofs.lemmas.List.Kept.{AllPairs-cons}
use Rattle.std.proofs.lemmas.Map.Keys.{sorted_tail}
use Rattle.std.proofs.lemmas.Map.Views.{All-after_first}
use Rattle.feed_names.specs.ReleaseName.{Name, text_of}
use Rattle.feed_model.specs.Content.{names}
use Rattle.feed_keep.specs.declared.record.Record as code
use Rattle.feed_keep.specs.Shown.{shown}

abbrev pub text_cmp : List ℕ → List ℕ → Ordering
text_cmp = slice_cmp nat_cmp

abbrev pub name_cmp : Name → Name → Ordering
name_cmp = on text_of text_cmp

pub name_total : IsTotalOrder name_cmp
name_total = on_total text_of nat_list_cmp_total

pub up_pairs : {K : Type 0} (c : K → K → Ordering) (ks : List K) → IsStrictlySortedBy c ks → AllPairs (λ x y. c x y ≡ Less) ks
up_pairs c [] up = λ i j d lt within. absurd (omega arith)
up_pairs c (k ∷ ks) up = AllPairs-cons (λ x y. c x y ≡ Less) k ks (All-after_first c k ks up) (up_pairs c ks (sorted_tail c k ks up))

pub names_shown : (rs : List code.Record) → names (shown rs) ≡ map (λ r. r.name) rs
names_shown [] = refl
names_shown (r ∷ rs) = ap (λ ns. r.name ∷ ns) (names_shown rs)
