-- A database that is upgraded, step by step.
use Rattle.std.proofs.Common.{◌≡◌, List, [], ◌∷◌, ◌++◌, None, refl, sym, ap, ◌∙◌}
use Rattle.sqlite.specs.Effect.{Database}
use Rattle.sqlite.specs.State.{State}
use Rattle.feed_names.specs.ReleaseName.{Name}
use Rattle.feed_model.specs.Content.{Record, Content}
use Rattle.feed_store_write.specs.Effects.{IsReasonChangeIf, IsExtension, IsMade, IsRenumbering, IsUpgradeIf, KeepsReleases}
use Rattle.feed_store_write.specs.Upgrading.{AreStored, IsStoredIn, IsStoredIf, explain, explain_by, explained_with}

-- rows that two calls keep
kept_twice : (a b c : Database) → KeepsReleases a b → KeepsReleases b c → KeepsReleases a c
kept_twice a b c one two = (two.0 ∙ one.0, two.1 ∙ one.1)

explained_last : (rs : List Record) (r : Record) (c : Content) → explained_with (rs ++ r ∷ []) c ≡ explain r (explained_with rs c)
explained_last [] r c = refl
explained_last (x ∷ rs) r c = explained_last rs r (explain x c)

stored_last : (rs : List Record) (r : Record) → AreStored (rs ++ r ∷ []) → AreStored rs × IsStoredIn r
stored_last [] r all = (tt, all.0)
stored_last (x ∷ rs) r all = let it = stored_last rs r all.1 in ((all.0, it.0), it.1)

pub none_explained : (s : State) → IsMade (IsReasonChangeIf (AreStored []) (explained_with [])) s s
none_explained s = record { change = λ stored ours. (record { ours = ours; listed = λ are. are; content = λ are. refl }, (refl, refl)); committed = refl; inside = λ on. on }

pub one_explained : (rs : List Record) (r : Record) (a b c : State) → IsMade (IsReasonChangeIf (AreStored rs) (explained_with rs)) a b
    → IsMade (IsReasonChangeIf (IsStoredIn r) (explain r)) b c → IsMade (IsReasonChangeIf (AreStored (rs ++ r ∷ [])) (explained_with (rs ++ r ∷ []))) a c
one_explained rs r a b c one two = record {
  change = λ stored ours.
      let each = stored_last rs r stored in
      let first = one.change each.0 ours in
      let second = two.change each.1 first.0.ours in (
        record {
          ours = second.0.ours;
          listed = λ are. second.0.listed (first.0.listed are);
          content = λ are. second.0.content (first.0.listed are) ∙ ap (explain r) (first.0.content are) ∙ sym (explained_last rs r _);
        },
        kept_twice a.now b.now c.now first.1 second.1,
      );
  committed = two.committed ∙ one.committed;
  inside = λ on. two.inside (one.inside on);
}

-- a record without a reason changes nothing
pub no_reason_made : (n : Name) (s : State) → IsMade (IsReasonChangeIf (IsStoredIf None) (explain_by n None)) s s
no_reason_made n s = record { change = λ stored ours. (record { ours = ours; listed = λ are. are; content = λ are. refl }, (refl, refl)); committed = refl; inside = λ on. on }

-- the table, the number and the reasons are the upgrade
pub upgraded : (P : Type 0) (f : Content → Content) (a b c d : State) → IsMade IsExtension a b → IsMade IsRenumbering b c → IsMade (IsReasonChangeIf P f) c d
    → IsMade (IsUpgradeIf P f) a d
upgraded P f a b c d one two three = record {
  change = λ holds earlier.
      let numbered = two.change a.now earlier (one.change earlier.schema) in
      let changed = three.change holds numbered.ours in record {
        ours = changed.0.ours;
        rows = kept_twice a.now c.now d.now numbered.rows changed.1;
        listed = λ are. changed.0.listed (numbered.listed are);
        content = λ are. changed.0.content (numbered.listed are) ∙ ap f (numbered.content are);
      };
  committed = three.committed ∙ two.committed ∙ one.committed;
  inside = λ on. three.inside (two.inside (one.inside on));
}
