-- The effect of the tables' constraints on the parts and the reasons of deleted releases.
use Rattle.std.proofs.Common.{◌≡◌, ◌⊎◌, inl, inr, zero, suc, ℕ, ℤ, List, [], ◌∷◌, ◌++◌, length, length-append}
use Rattle.std.proofs.Common.{Bool, true, false, Some, Ok, refl, sym, ap, subst, ◌∙◌, arith}
use Rattle.std.specs.List.{list_any}
use Rattle.std.proofs.lemmas.Bool.{cases_Bool}
use Rattle.std.proofs.lemmas.List.{append-nil}
use Rattle.sqlite_value.specs.Order.{Row}
use Rattle.sqlite_value.specs.Keys.{plain}
use Rattle.sqlite_trees.specs.Tree.{Trees}
use Rattle.sqlite_schema.specs.declared.schema.Keys.TheVariants.{Enforced}
use Rattle.sqlite_schema.specs.Rules.{parent_key}
use Rattle.sqlite_schema.specs.declared.schema.Table.{Table}
use Rattle.sqlite_rules.specs.declared.error.Rowids.TheVariants.{Given}
use Rattle.sqlite_rules.specs.declared.action.Deed.TheVariants.{Delete}
use Rattle.sqlite_rules.specs.Edit.{edit_of, taken_by, Applies}
use Rattle.sqlite_rules.specs.Action.{Work, works, pairs, loses, AreChildren, Acts, Leads, Writes}
use Rattle.sqlite_tied.specs.Compute.{everything}
use Rattle.feed_store_model.specs.Layout.{layout_2_schema, release, piece, reason, owner}
use Rattle.feed_store_model.proofs.Basics.{zero_one, zero_three, zero_five}

-- a part names the first column of a release
pub key_is : parent_key layout_2_schema.tables owner ≡ Some (1, 1 ∷ [], plain)
unfolding everything
key_is = refl

-- what is to be done about the rows of a table that belong to the rows that are taken out
abbrev pub work : Table → List Row → Work
work child olds = record { depth = 0; child = child; ref = owner; places = 1 ∷ []; order = plain; deed = Delete; moves = pairs olds [] }

-- some row that is taken out had a key that a part or a reason may name
abbrev pub lose : List Row → Bool
lose olds = list_any (loses plain (1 ∷ [])) (pairs olds [])

works_if : (olds : List Row) → lose olds ≡ true → works layout_2_schema Enforced 0 1 olds [] ≡ work piece olds ∷ work reason olds ∷ []
works_if olds h = rw (key_is, h) refl

works_else : (olds : List Row) → lose olds ≡ false → works layout_2_schema Enforced 0 1 olds [] ≡ []
works_else olds h = rw (key_is, h) refl

-- nothing belongs to a row of this table
abbrev EndsAt : Table → Type 0
EndsAt child = (olds : List Row) → works layout_2_schema Enforced 1 child.tree olds [] ≡ []

ends_piece : EndsAt piece
ends_piece olds = rw key_is refl

ends_reason : EndsAt reason
ends_reason olds = rw key_is refl

settled : (n : ℕ) (mid next : Trees) → Leads layout_2_schema Enforced n mid [] (Ok next) → mid ≡ next
settled zero mid next h = let e = h.1 in cc
settled (suc n) mid next h = absurd (omega (arith, ap length h.2, length-append h.0 (h.1 ∷ [])))

-- the rows of the table that belong to the rows which were taken are taken out
pub record Removes (child : Table) (olds : List Row) (mid next : Trees) : Type 0 where
  pub ids : List ℤ
  pub are : AreChildren mid (work child olds) ids
  pub then : ((ids ≡ []) × (next ≡ mid)) ⊎ Applies layout_2_schema Enforced mid (edit_of mid child ids Given 0 []) next

-- the parts and the reasons of the releases that were taken are gone too
pub record Cascade (db next : Trees) (gone : List ℤ) : Type 0 where
  pub olds : List Row
  pub taken : olds ≡ taken_by db (edit_of db release gone Given 0 [])
  pub mid : Trees
  pub first : Applies layout_2_schema Enforced db (edit_of db release gone Given 0 []) mid
  pub then : ((lose olds ≡ false) × (next ≡ mid))
      ⊎ ((late : Trees) × Removes reason olds mid late × Removes piece olds late next)

-- one list has one last element, and one front
last_is : (below front : List Work) (w v : Work) → below ++ w ∷ [] ≡ front ++ v ∷ [] → (front ≡ below) × (v ≡ w)
last_is [] [] w v h = (refl, let e = h in cc)
last_is [] (y ∷ ys) w v h = absurd (omega (arith, ap length h, length-append ys (v ∷ [])))
last_is (x ∷ xs) [] w v h = absurd (omega (arith, ap length h, length-append xs (w ∷ [])))
last_is (x ∷ xs) (y ∷ ys) w v h =
    let head : y ≡ x = (let e = h in cc) in
    let tail : xs ++ w ∷ [] ≡ ys ++ v ∷ [] = (let e = h in cc) in
    let it = last_is xs ys w v tail in
    (ap (λ z. z ∷ ys) head ∙ ap (λ l. x ∷ l) it.0, it.1)

-- the last work is done, and the others are left to do
children : (child : Table) → EndsAt child → (n : ℕ) (mid next : Trees) (below : List Work) (olds : List Row)
    → Leads layout_2_schema Enforced n mid (below ++ work child olds ∷ []) (Ok next)
    → (late : Trees) × Removes child olds mid late × (m : ℕ) × Leads layout_2_schema Enforced m late below (Ok next)
children child ends zero mid next below olds h = absurd (omega (arith, ap length h.0, length-append below (work child olds ∷ [])))
children child ends (suc n) mid next below olds h =
    let is = last_is below h.0 (work child olds) h.1 h.2 in
    acts n mid next (rw (is.0, is.1) at h.3)
  where
    acts : (n : ℕ) (mid next : Trees) → Acts layout_2_schema Enforced (Leads layout_2_schema Enforced n) mid (work child olds) below (Ok next)
        → (late : Trees) × Removes child olds mid late × (m : ℕ) × Leads layout_2_schema Enforced m late below (Ok next)
    acts n mid next ([], are, on) = (mid, record { ids = []; are = are; then = inl (refl, refl) }, n, on)
    acts n mid next (id ∷ ids, are, inl refused) = absurd (let e = refused.2 in cc)
    acts n mid next (id ∷ ids, are, inr (inl big)) = absurd (let e = big.3 in cc)
    acts n mid next (id ∷ ids, are, inr (inr on)) =
        let rest = rw (ends (taken_by mid (edit_of mid child (id ∷ ids) Given 0 []))) at on.2 in
        (on.0, record { ids = id ∷ ids; are = are; then = inr on.1 }, n, subst (λ works. Leads layout_2_schema Enforced n on.0 works (Ok next)) (append-nil below) rest)

pub cascades : (db next : Trees) (gone : List ℤ) → Writes layout_2_schema Enforced db (edit_of db release gone Given 0 []) (Ok next) → Cascade db next gone
cascades db next gone (inl refused) = absurd (let e = refused.2 in cc)
cascades db next gone (inr (inl big)) = absurd (let e = big.3 in cc)
cascades db next gone (inr (inr went)) =
    let olds = taken_by db (edit_of db release gone Given 0 []) in
    record {
      olds = olds;
      taken = refl;
      mid = went.0;
      first = went.1;
      then = elim (cases_Bool (lose olds)) [
        | inl has ↦
            let reasons = children reason ends_reason went.2.0 went.0 next (work piece olds ∷ []) olds (rw (works_if olds has) at went.2.1) in
            let parts = children piece ends_piece reasons.2 reasons.0 next [] olds reasons.3 in
            inr (reasons.0, reasons.1, subst (Removes piece olds reasons.0) (settled parts.2 parts.0 next parts.3) parts.1)
        | inr lacks ↦ inl (lacks, sym (settled went.2.0 went.0 next (rw (works_else olds lacks) at went.2.1)))
      ];
    }

-- a table stays as it is, where rows of another one are removed
pub removes_beside : (child : Table) (olds : List Row) (mid next : Trees) (tree : ℕ) → Removes child olds mid next
    → ((edit : _) → Applies layout_2_schema Enforced mid (edit_of mid child edit Given 0 []) next → next tree ≡ mid tree) → next tree ≡ mid tree
removes_beside child olds mid next tree it others = elim it.then [
  | inl none ↦ ap (λ (t : Trees). t tree) none.1
  | inr later ↦ others it.ids later
]

-- the layout's table is left alone
pub layout_left : (db next : Trees) (gone : List ℤ) → Cascade db next gone → next 0 ≡ db 0
layout_left db next gone c = elim c.then [
  | inl none ↦ ap (λ (t : Trees). t 0) none.1 ∙ c.first.tables.0 zero_one
  | inr (late, reasons, parts) ↦
      removes_beside piece c.olds late next 0 parts (λ ids it. it.tables.0 zero_three)
      ∙ removes_beside reason c.olds c.mid late 0 reasons (λ ids it. it.tables.0 zero_five)
      ∙ c.first.tables.0 zero_one
]
