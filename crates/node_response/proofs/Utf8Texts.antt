-- A text that is put into UTF-8 is UTF-8.
use Rattle.std.proofs.Common.{◌≡◌, ℕ, zero, suc, ◌-◌, ◌&&◌, Bool, true, false, List, [], ◌∷◌, refl, get_or, arith}
use Rattle.std.specs.Prelude.{nat_lt, if◌then◌else◌}
use Rattle.std.specs.List.{list_all}
use Rattle.std.specs.Char.{encode_utf8}
use lib.Utf8.{scalar}
use Rattle.std.specs.Str.{IsUtf8, is_utf8}
use Rattle.std.proofs.lemmas.Bool.Decides.{nat_tests}
use Rattle.std.proofs.lemmas.Str.{IsUtf8-append, IsUtf8-encode, IsUtf8-from_is_utf8, IsUtf8-nil}
use Rattle.node_response.specs.declared.utf8.TheConstants.{UPPER}
use Rattle.node_request.specs.declared.representation.Representation.{Representation}
use Rattle.node_request.specs.declared.representation.Representation.TheVariants.{Text, Json, Html, Fragment, Sfx}
use Rattle.node_response.specs.Laws.{PagesAreUtf8}
use Rattle.node_response.specs.Responses.{is_document, sent_body}
use Rattle.node_response.specs.Utf8.{from_windows_1252, in_utf8, windows_1252}

both : (a b : Bool) → (a && b) ≡ true → (a ≡ true) × (b ≡ true)
both true b h = (refl, h)
both false b h = cc

scalar_at : (xs : List ℕ) → list_all scalar xs ≡ true → (k : ℕ) → scalar (get_or xs k 0) ≡ true
scalar_at [] h k = refl
scalar_at (x ∷ xs) h zero = (both (scalar x) (list_all scalar xs) h).0
scalar_at (x ∷ xs) h (suc k) = scalar_at xs (both (scalar x) (list_all scalar xs) h).1 k

scalar_byte : (c : Bool) (b : ℕ) → nat_lt b 128 ≡ c → scalar (if c then b else get_or UPPER (b - 128) 0) ≡ true
scalar_byte true b h = grind (arith, nat_tests)
scalar_byte false b h = scalar_at UPPER refl (b - 128)

taken_is_utf8 : (text : List ℕ) → IsUtf8 (from_windows_1252 text)
taken_is_utf8 [] = IsUtf8-nil
taken_is_utf8 (b ∷ rest) =
    IsUtf8-append (encode_utf8 (windows_1252 b)) (from_windows_1252 rest)
    (IsUtf8-encode (windows_1252 b) (scalar_byte (nat_lt b 128) b refl)) (taken_is_utf8 rest)

either : (c : Bool) (text : List ℕ) → is_utf8 text ≡ c → IsUtf8 (if c then text else from_windows_1252 text)
either true text h = IsUtf8-from_is_utf8 text h
either false text h = taken_is_utf8 text

pub in_utf8_is_utf8 : (text : List ℕ) → IsUtf8 (in_utf8 text)
unfolding in_utf8
in_utf8_is_utf8 text = either (is_utf8 text) text refl

page_case : (representation : Representation) (body : List ℕ) → is_document representation ≡ true → IsUtf8 (sent_body representation body)
page_case Text body h = cc
page_case Json body h = cc
page_case Html body h = in_utf8_is_utf8 body
page_case Fragment body h = in_utf8_is_utf8 body
page_case Sfx body h = in_utf8_is_utf8 body

pub pages_in_utf8 : PagesAreUtf8
pages_in_utf8 redirects page h = page_case page.representation page.body h
