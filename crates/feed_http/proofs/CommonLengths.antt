-- The length that all values write.
use Rattle.std.proofs.Common.{◌≡◌, ℕ, List, Option, Some, None, Bool, true, false, refl, ◌∙◌}
use Rattle.std.specs.List.{list_all}
use Rattle.std.specs.Bool.{then_some}
use Rattle.feed_http_heads.specs.Fields.{first_of}
use Rattle.feed_http.specs.Announcements.{is_length_value, common_length}
use Rattle.feed_bytes.specs.Split.{number_in_64_bits}

pub agreed_on_none : (all : List (List ℕ)) → None ≡ first_of all → None ≡ common_length all
agreed_on_none all e = rw (← e) refl

pub agreed_on_no_length : (all : List (List ℕ)) (value : List ℕ) → Some value ≡ first_of all → None ≡ number_in_64_bits value → None ≡ common_length all
agreed_on_no_length all value e none = rw (← e, ← none) refl

pub agreed_on : (all : List (List ℕ)) (value : List ℕ) (length : ℕ) (b : Bool) (result : Option ℕ) → Some value ≡ first_of all → Some length ≡ number_in_64_bits value
    → b ≡ list_all (is_length_value length) all → result ≡ then_some b length → result ≡ common_length all
agreed_on all value length true result e some is gives = gives ∙ rw (← e, ← some, ← is) refl
agreed_on all value length false result e some is gives = gives ∙ rw (← e, ← some, ← is) refl
