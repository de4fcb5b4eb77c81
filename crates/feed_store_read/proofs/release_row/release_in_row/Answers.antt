use Rattle.std.proofs.Common.{refl, ◌≡◌, ◌∷◌, [], ◌∙◌, ap, sym, rules, subst, pos, ℕ, List, w64, to_z, of_z, FitsSigned}
use Rattle.std.proofs.Math.Facts.{to_z-of_z}
use Rattle.sqlite_value.specs.declared.value.Value.TheVariants.{Int, Text}
use Rattle.feed_names.specs.ReleaseName.{Name, IsName, text_of}
use Rattle.feed_store_model.specs.Tables.{release_row, number_of}
use Rattle.feed_store_read.proofs.ReleaseRows.{as_release, release_says}
use Rattle.feed_store_read.proofs.release_row.release_in_row.Goals as goal

pub returns-in_default-2 : goal.returns-in_default-2
returns-in_default-2 c h =
    let columns = c.in-Some.columns in
    let said = release_says c.args.row.now columns.id columns.day columns.text.now columns.package_name.now columns.size columns.state c.in-Some.ensures h in
    (rw c.in_default-2.is at c.in_ok-name.ensures) _ said.named

pub returns-then-not-is_of : goal.returns-then-not-is_of
returns-then-not-is_of c h =
    let columns = c.in-Some.columns in
    let said = release_says c.args.row.now columns.id columns.day columns.text.now columns.package_name.now columns.size columns.state c.in-Some.ensures h in
    let n : Name = record { package_name = columns.package_name.now; day = columns.day } in
    let named : IsName columns.text.now c.in-Some-2.name = rw c.in-Some-2.is at c.in_ok-name.ensures in
    let same : n ≡ c.in-Some-2.name = c.one_release_for_text.ensures columns.text.now n c.in-Some-2.name said.named named in
    let yes = c.is_of.ensures.1 (ap (λ (m : Name). m.package_name) same, ap (λ (m : Name). m.day) same, said.limit) in
    absurd (let e = sym yes ∙ c.if-not-is_of.true in cc)

pub returns : goal.returns
returns c =
    let columns = c.in-Some.columns in
    let n = c.in-Some-2.name in
    let inv = c.in-Some.columns-is in
    let fits : FitsSigned w64 columns.id = search rules in
    let back : to_z w64 (of_z w64 columns.id) ≡ columns.id = to_z-of_z fits in
    let named : IsName columns.text.now n = rw c.in-Some-2.is at c.in_ok-name.ensures in
    let text : columns.text.now ≡ text_of n = c.one_text_for_release.ensures n columns.text.now named in
    let right = c.is_of.ensures.0 c.if-not-is_of.false in
    let state : columns.state ≡ number_of c.in-Some-state_of.state = c.in-Some-state_of.ensures in
    let row : c.args.row.now ≡ release_row columns.id n columns.size c.in-Some-state_of.state =
    c.in-Some.ensures ∙ (λ i. Int columns.id ∷ Text (text i) ∷ Text (right.0 i) ∷ Int (right.1 i) ∷ Int (pos columns.size) ∷ Int (pos (state i)) ∷ []) in
    rw back (as_release c.args.row.now columns.id _ row (subst (λ (t : List ℕ). IsName t n) text named) right.2 refl c.new.ensures.items)
