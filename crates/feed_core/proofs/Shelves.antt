-- The published files of the code and of a world.
use Rattle.std.proofs.Common.{◌≡◌, ◌≢◌, ◌++◌, ℕ, Bool, true, false, cond, List, [], ◌∷◌, Option, Some, None, inl, inr, refl, sym, ◌∙◌, ap, subst}
use Rattle.std.specs.Borrow.{Bor}
use Rattle.std.specs.Map.{lookup}
use Rattle.std.specs.BTreeMap.{is_at}
use Rattle.std.specs.Ordering.{nat_cmp}
use Rattle.std.specs.Cmp.Lexicographic.{slice_cmp, bytes_decides}
use Rattle.std.proofs.lemmas.Map.Text.{is_eq-slice_cmp}
use Rattle.feed_names.specs.ReleaseName.{Name, name_eq, IsName, OneReleaseForText, OneTextForRelease, text_of}
use Rattle.feed_model.specs.History.{or_else}
use Rattle.feed_model.proofs.Names.{name_is, name_self}
use Rattle.feed_world.specs.World.{Shelf, World, Publish, Published, Refused, Happens, file_on}
use Rattle.feed_world.specs.declared.line.Why.TheVariants.{Republished}
use Rattle.feed_world.proofs.Moves.{file_on-push, or_none}
use Rattle.feed_core.specs.Step.{IsShelf, file_at}

-- whether two keys are one
abbrev pub is_key : Bor (List ℕ) → Bor (List ℕ) → Bool
is_key key other = is_at (λ k. slice_cmp nat_cmp key.now k.now) other

key_is : (key other : Bor (List ℕ)) → is_key key other ≡ true → key.now ≡ other.now
key_is key other e = (bytes_decides key.now other.now).0 (sym (is_eq-slice_cmp key.now other.now) ∙ e)

key_self : (key other : Bor (List ℕ)) → key.now ≡ other.now → is_key key other ≡ true
key_self key other e = is_eq-slice_cmp key.now other.now ∙ (bytes_decides key.now other.now).1 e

-- with one more file, which had no name
pub shelf_more : (old new : List (Bor (List ℕ) × Bor (List ℕ))) (shelf : Shelf) (n : Name) (key file : Bor (List ℕ)) → OneReleaseForText → OneTextForRelease → IsShelf old shelf
    → IsName key.now n → file_on shelf n ≡ None
    → ((q : Bor (List ℕ)) → lookup (is_at (λ k. slice_cmp nat_cmp q.now k.now)) new ≡ cond (is_key key q) (Some file) (lookup (is_at (λ k. slice_cmp nat_cmp q.now k.now)) old))
    → IsShelf new (shelf ++ (n, file.now) ∷ [])
shelf_more old new shelf n key file one_release one_text was named unknown updates m q is = by (name_eq n m) refl (is_key key q) refl
  where
    by : (a : Bool) → name_eq n m ≡ a → (b : Bool) → is_key key q ≡ b → file_on (shelf ++ (n, file.now) ∷ []) m ≡ file_at new q
    by true same true key_same =
        rw (file_on-push shelf n m file.now, same, updates q, key_same) (ap (λ (o : Option (List ℕ)). or_else o (Some file.now)) (ap (file_on shelf) (sym (name_is n m same)) ∙ unknown))
    by true same false apart =
        absurd (let e : text_of n ≡ text_of m = ap text_of (name_is n m same) in let t = key_self key q (one_text n key.now named ∙ e ∙ sym (one_text m q.now is)) in cc)
    by false apart true key_same =
        absurd (let e = one_release q.now n m (subst (λ (t : List ℕ). IsName t n) (key_is key q key_same) named) is in let s = name_self n in let f : name_eq n n ≡ false = subst
        (λ (x : Name). name_eq n x ≡ false) (sym e) apart in cc)
    by false apart false key_apart =
        rw (file_on-push shelf n m file.now, apart, updates q, key_apart) (or_none (file_on shelf m) ∙ was m q is)

-- a publication under a name that has a file
pub published_again : (files : List (Bor (List ℕ) × Bor (List ℕ))) (w : World) (n : Name) (file bytes : List ℕ) → IsShelf files w.shelf → file_on w.shelf n ≡ Some file → file ≡ bytes
    → (v : World) × Happens w (Publish n bytes) Published v × IsShelf files v.shelf × (v.nodes ≡ w.nodes)
published_again files w n file bytes is at same = (w, rw at (inl (same, (refl, refl))), is, refl)

pub republished : (files : List (Bor (List ℕ) × Bor (List ℕ))) (w : World) (n : Name) (file bytes : List ℕ) → IsShelf files w.shelf → file_on w.shelf n ≡ Some file → file ≢ bytes
    → (v : World) × Happens w (Publish n bytes) (Refused Republished) v × IsShelf files v.shelf × (v.nodes ≡ w.nodes)
republished files w n file bytes is at apart = (w, rw at (inr (apart, (refl, refl))), is, refl)

pub published_first : (old new : List (Bor (List ℕ) × Bor (List ℕ))) (w : World) (n : Name) (bytes : List ℕ) → IsShelf new (w.shelf ++ (n, bytes) ∷ []) → file_on w.shelf n ≡ None
    → (v : World) × Happens w (Publish n bytes) Published v × IsShelf new v.shelf × (v.nodes ≡ w.nodes)
published_first old new w n bytes is none = (record { shelf = w.shelf ++ (n, bytes) ∷ []; nodes = w.nodes }, rw none (refl, refl), is, refl)
