-- The keys of an OpenURL that are looked up: those of OpenURL 1.0 (Z39.88-2004, the matrices of journals and books),
-- and those of OpenURL 0.1.
use Rattle.std.specs.Prelude.{◌||◌, ◌&&◌, nat_le, ℕ, Bool, true, false, List, Option, Some, None, if◌then◌else◌, take, drop, length, codes}
use Rattle.std.specs.Str.{str_eq_ignore_ascii_case}
use Rattle.feed_bytes.specs.Trim.{trimmed}
use Rattle.feed_openurl.specs.declared.key.Key.{Key}
use Rattle.feed_openurl.specs.declared.key.Key.TheVariants.{Version, Format, Number, Name, Date, Volume, Other}
use Rattle.feed_openurl.specs.declared.key.Tier.{Tier}
use Rattle.feed_openurl.specs.declared.key.Tier.TheVariants.{Rft, Old}

-- two tiers are the same
abbrev pub same_tier : Tier → Tier → Bool
same_tier Rft Rft = true
same_tier Rft Old = false
same_tier Old Rft = false
same_tier Old Old = true

-- a key is this name, in any case of letters (practice: discovery services send `ISBN`)
abbrev pub is_name : List ℕ → List ℕ → Bool
is_name key name = str_eq_ignore_ascii_case key name

-- what follows a prefix, in any case of letters
abbrev pub after_prefix : List ℕ → List ℕ → Option (List ℕ)
after_prefix front key =
    if nat_le (length front) (length key) && is_name (take (length front) key) front then Some (drop (length front) key) else None

-- what follows a prefix of a text, if there is one
abbrev pub after_in : List ℕ → Option (List ℕ) → Option (List ℕ)
after_in front (Some text) = after_prefix front text
after_in front None = None

-- the first text, or another if there is none
abbrev pub or_text : Option (List ℕ) → Option (List ℕ) → Option (List ℕ)
or_text (Some text) other = Some text
or_text None other = other

-- a text, or another one if there is none
abbrev pub or_else : Option (List ℕ) → List ℕ → List ℕ
or_else (Some text) other = text
or_else None other = other

-- a key without the `?` or the `amp;` that a page or a proxy leaves before it (practice)
abbrev pub without_front : List ℕ → List ℕ
without_front key = or_else (after_prefix (codes "?") key) (or_else (after_prefix (codes "amp;") key) key)

-- a key without spaces at its ends, and without up to two such fronts, as an ampersand may be escaped twice
abbrev pub mended : List ℕ → List ℕ
mended key = without_front (without_front (trimmed key))

-- a key after `rft.` (Z39.88-2004, the matrices), or one of OpenURL 0.1
abbrev pub referent_key : Tier → List ℕ → Key
referent_key tier name =
    if is_name name (codes "issn") || is_name name (codes "eissn") then Number
    else if is_name name (codes "isbn") || is_name name (codes "eisbn") then Number
    else if is_name name (codes "date") then Date tier
    else if is_name name (codes "volume") then Volume tier
    else Other

-- a key without `rft.`: of the context object (Z39.88-2004, part 1), or one of OpenURL 0.1
abbrev pub envelope_key : List ℕ → Key
envelope_key name =
    if is_name name (codes "rft_id") then Name Rft
    else if is_name name (codes "id") then Name Old
    else if is_name name (codes "rft_val_fmt") then Format
    else if is_name name (codes "url_ver") || is_name name (codes "ctx_ver") then Version
    else referent_key Old name

-- a key whose part after `rft.` is this, if it has one
abbrev pub key_with : Option (List ℕ) → List ℕ → Key
key_with (Some rest) name = referent_key Rft rest
key_with None name = envelope_key name

-- what a key asks for
abbrev pub key_of : List ℕ → Key
key_of key = key_with (after_prefix (codes "rft.") (mended key)) (mended key)

-- a pair as what its key asks for, and its value
abbrev pub keyed : List ℕ × List ℕ → Key × List ℕ
keyed pair = (key_of pair.0, pair.1)

-- a key asks for a date in this tier
abbrev pub is_date_key : Tier → Key → Bool
is_date_key tier (Date own) = same_tier own tier
is_date_key tier _ = false

-- a key asks for a volume in this tier
abbrev pub is_volume_key : Tier → Key → Bool
is_volume_key tier (Volume own) = same_tier own tier
is_volume_key tier _ = false
