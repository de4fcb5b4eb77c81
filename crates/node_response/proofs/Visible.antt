-- A tag is made of visible bytes.
use Rattle.std.proofs.Common.{◌≡◌, ◌<◌, ℕ, zero, suc, true, List, [], ◌∷◌, ◌++◌, refl, ap, ◌∙◌, arith, All, lit<}
use Rattle.std.specs.List.{AllByRecursion}
use Rattle.std.specs.Int.{byte_at, bytes_high_first}
use Rattle.std.proofs.lemmas.List.Elements.{All-append, All-weaker, All-cons, All-nil, recursion_from_All}
use Rattle.std.proofs.lemmas.List.Sums.{AllPass-from_list_all}
use Rattle.std.proofs.lemmas.Bool.Decides.{nat_tests}
use Rattle.httparse.specs.Grammar.{AllPass, is_uri_byte}
use Rattle.hex.specs.Hex.{encode_lower, is_hex_digit, IsBytes}
use Rattle.hex.proofs.HexLemmas.{decode_of-encode_lower, decode_of-ok}
use Rattle.sha2.specs.Sha256.{digest_bytes, final_hash, initial_hash_256, sha256}
use Rattle.std.specs.Fmt.{decimal}
use Rattle.node_request.specs.declared.representation.Representation.{Representation}
use Rattle.feed_answer.specs.Today.{TodayValue}
use Rattle.node_response.specs.Tags.{SiteValue, TagInputs, entity_tag, inputs_of, kind_and_day, message_of, source_digest, tag_message, quoted_hex}

abbrev IsByte : ℕ → Type 0
IsByte b = b < 256

byte_small : (k n : ℕ) → byte_at k n < 256
byte_small zero n = search arith
byte_small (suc k) n = search arith

bytes_small : (k n : ℕ) → All IsByte (bytes_high_first k n)
bytes_small zero n = All-nil IsByte
bytes_small (suc k) n = All-cons IsByte (byte_at k n) (bytes_high_first k n) (byte_small k n) (bytes_small k n)

digest_small : (h : List ℕ) (n : ℕ) → All IsByte (digest_bytes h n)
unfolding digest_bytes
digest_small h zero = All-nil IsByte
digest_small h (suc n) = All-append IsByte (digest_bytes h n) _ (digest_small h n) (bytes_small 4 _)

sha_small : (m : List ℕ) → All IsByte (sha256 m)
unfolding sha256
sha_small m = digest_small (final_hash initial_hash_256 m) 8

digit_visible : (c : ℕ) → is_hex_digit c ≡ true → is_uri_byte c ≡ true
digit_visible c digit = grind (arith, nat_tests)

each_small : (bytes : List ℕ) → AllByRecursion IsByte bytes → IsBytes bytes
each_small [] all i = lit< tt
each_small (b ∷ bytes) all zero = all.0
each_small (b ∷ bytes) all (suc i) = each_small bytes all.1 i

hex_visible : (bytes : List ℕ) → All IsByte bytes → AllPass is_uri_byte (encode_lower bytes)
hex_visible bytes small = All-weaker (λ c. is_hex_digit c ≡ true) (λ c. is_uri_byte c ≡ true) digit_visible (encode_lower bytes)
    (decode_of-ok (encode_lower bytes) bytes (decode_of-encode_lower bytes (each_small bytes (recursion_from_All IsByte bytes small)))).1

pub tag_visible : (inputs : TagInputs) → AllPass is_uri_byte (entity_tag inputs)
unfolding entity_tag
tag_visible inputs =
    let digest : List ℕ = sha256 (tag_message inputs) in
    All-append (λ c. is_uri_byte c ≡ true) (34 ∷ []) (encode_lower digest ++ 34 ∷ []) (AllPass-from_list_all is_uri_byte (34 ∷ []) refl)
    (All-append (λ c. is_uri_byte c ≡ true) (encode_lower digest) (34 ∷ [])
    (hex_visible digest (sha_small (tag_message inputs)))
    (AllPass-from_list_all is_uri_byte (34 ∷ []) refl))

-- a tag from the digest of its inputs
pub tag_made : (site : SiteValue) (today : TodayValue) (releases : List ℕ) (representation : Representation) (source last digest : List ℕ)
    → source ≡ source_digest site.version (decimal site.max_age) site.file site.library.listing releases → last ≡ kind_and_day representation today.day
    → digest ≡ sha256 (message_of source last) → quoted_hex digest ≡ entity_tag (inputs_of site today releases representation)
unfolding entity_tag
tag_made site today releases representation source last digest is ends made =
    ap quoted_hex (made ∙ ap (λ t. sha256 (message_of t last)) is
    ∙ ap (λ t. sha256 (message_of (source_digest site.version (decimal site.max_age) site.file site.library.listing releases) t)) ends)
