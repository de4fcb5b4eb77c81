-- The text of a request, piece by piece.
use Rattle.std.proofs.Common.{◌≡◌, ℕ, List, ◌++◌, Option, OnOk, Result, Ok, Err, append_assoc, subst}
use Rattle.std.specs.Io.KnownBytes.{Appends}
use Rattle.feed_http.specs.RequestTexts.{start_then, start_text}
use Rattle.std.proofs.KnownBytes.{Appends-trans}

start-append : (method host name rest : List ℕ) → start_text method host name ++ rest ≡ start_then method host name rest
start-append method host name rest = simp append_assoc

-- what follows the start of a request
pub started : (old mid new : Option (List ℕ)) (method host name rest : List ℕ) → Appends old mid (start_text method host name) → Appends mid new rest
    → Appends old new (start_then method host name rest)
started old mid new method host name rest a b =
    subst (Appends old new) (start-append method host name rest) (Appends-trans old mid new _ _ a b)

pub three : (a b c d : Option (List ℕ)) (xs ys zs : List ℕ) → Appends a b xs → Appends b c ys → Appends c d zs → Appends a d (xs ++ (ys ++ zs))
three a b c d xs ys zs p q r = Appends-trans a b d xs (ys ++ zs) p (Appends-trans b c d ys zs q r)

-- six pieces; the last is there if its write succeeded
pub six : {A E : Type 0} (a b c d e f g : Option (List ℕ)) (result : Result A E) (us vs ws xs ys zs : List ℕ) → Appends a b us → Appends b c vs → Appends c d ws → Appends d e xs → Appends e f ys
    → OnOk result (Appends f g zs) → OnOk result (Appends a g (us ++ (vs ++ (ws ++ (xs ++ (ys ++ zs))))))
six a b c d e f g (Err fault) us vs ws xs ys zs m n o p q r = tt
six a b c d e f g (Ok done) us vs ws xs ys zs m n o p q r =
    Appends-trans a b g us (vs ++ (ws ++ (xs ++ (ys ++ zs)))) m (Appends-trans b c g vs (ws ++ (xs ++ (ys ++ zs))) n
    (Appends-trans c d g ws (xs ++ (ys ++ zs)) o (three d e f g xs ys zs p q r)))
