-- The texts that a site file may have for each kind of value.
use Rattle.std.specs.Prelude.{ℕ, ◌&&◌, ◌||◌, ◌==◌, Bool, count_by, false, not, is_some, nat_le, nat_lt, List, [], ◌∷◌, length, drop, Option, Some, None, codes}
use Rattle.std.specs.List.{list_all, list_any}
use Rattle.std.specs.Char.{is_ascii_alphabetic, is_ascii_alphanumeric, is_ascii_hexdigit}
use Rattle.std.specs.Str.{bytes_eq}
use Rattle.feed_dates.specs.DayRanges.{days_of}
use Rattle.feed_names.specs.ReleaseName.{is_package_byte}
use Rattle.node_site.specs.Urls.{after_byte, after_scheme, before_byte, has_byte, is_host, is_sized, parts_between}
use Rattle.node_site.specs.Fields.{is_allowed}
use Rattle.node_site.specs.Hosts.{is_link}
use Rattle.node_site.specs.declared.field.Names.{Names}
use Rattle.node_site.specs.declared.field.Names.TheVariants.{OfLink, OfArticle, OfPrefix}
use Rattle.node_site.specs.declared.kind.ValueKind.{ValueKind}
use Rattle.node_site.specs.declared.kind.ValueKind.TheVariants.{Text, Note, Language, Color, Url, Template, Article, Prefix, Occasion}
use Rattle.node_site.specs.declared.kind.ValueKind.TheVariants.{Package, FileName, Host, Date}

-- a text to show, which a page may have a thousand times
abbrev pub is_text : List ℕ → Bool
is_text text = is_sized 1 250 text

-- a note for readers
abbrev pub is_note : List ℕ → Bool
is_note text = is_sized 1 500 text

-- the language at the front of a tag: two to eight letters
abbrev pub is_primary : List ℕ → Bool
is_primary subtag = is_sized 2 8 subtag && list_all is_ascii_alphabetic subtag

-- a part of a tag between hyphens: one to eight letters and digits
abbrev pub is_subtag : List ℕ → Bool
is_subtag subtag = is_sized 1 8 subtag && list_all is_ascii_alphanumeric subtag

-- a tag of a language, such as `de` or `en-GB` (RFC 5646, section 2.1)
abbrev pub is_language : List ℕ → Bool
is_language tag = is_primary (before_byte 45 tag) && list_all is_subtag (parts_between 45 tag)

-- a colour: `#` and six hexadecimal digits
abbrev pub is_color : List ℕ → Bool
is_color [] = false
is_color (hash ∷ digits) = (hash == 35) && (is_sized 6 6 digits && list_all is_ascii_hexdigit digits)

-- what follows an opening brace: a name that is allowed, the closing brace, and no other
abbrev pub is_after_open : Names → List ℕ → Bool
is_after_open names piece = (has_byte 125 piece && is_allowed names (before_byte 125 piece)) && not (has_byte 125 (after_byte 125 piece))

-- the most names of a template
abbrev pub names_limit : ℕ
names_limit = 20

-- how many braces open
abbrev pub names_count : List ℕ → ℕ
names_count text = count_by (λ b. b == 123) text

-- each brace encloses a name that is allowed, and there are not too many of them
abbrev pub has_fields : Names → List ℕ → Bool
has_fields names text =
    not (has_byte 125 (before_byte 123 text))
    && (list_all (is_after_open names) (drop 1 (parts_between 123 text)) && nat_le (names_count text) names_limit)

-- a byte that ends an authority
abbrev pub ends_authority : ℕ → Bool
ends_authority b = (b == 47) || ((b == 63) || ((b == 35) || (b == 92)))

abbrev pub has_end : Option (List ℕ) → Bool
has_end None = false
has_end (Some rest) = list_any ends_authority rest

-- what is before the first brace: a URL of more than the eight bytes of `https://`, whose authority has ended
abbrev pub is_front : List ℕ → Bool
is_front front = nat_lt 8 (length front) && (is_link front && has_end (after_scheme front))

-- a URL with names in braces behind its host, such as `https://a.example/ill?issn={issn}`
abbrev pub is_template : Names → List ℕ → Bool
is_template names text = (is_link text && has_fields names text) && is_front (before_byte 123 text)

-- the address of an article: at least one name, since without any it would be the same for all
abbrev pub is_article : List ℕ → Bool
is_article text = is_template OfArticle text && has_byte 123 text

-- the prefix of a proxy: the address follows it, or is at its only `{url}`
abbrev pub is_prefix : List ℕ → Bool
is_prefix text = is_template OfPrefix text && not (has_byte 123 (after_byte 123 text))

-- when a link of the library is shown
abbrev pub is_occasion : List ℕ → Bool
is_occasion text =
    bytes_eq text (codes "always") || (bytes_eq text (codes "hits") || (bytes_eq text (codes "no-hits") || bytes_eq text (codes "embargoed")))

-- the text begins with a dot
abbrev pub begins_with_dot : List ℕ → Bool
begins_with_dot [] = false
begins_with_dot (b ∷ rest) = b == 46

-- the name of a package, as in the name of a release. A file beside the site file has such a name too: it leads to no other
-- folder
abbrev pub is_package : List ℕ → Bool
is_package name = (is_sized 1 100 name && list_all is_package_byte name) && not (begins_with_dot name)

-- a year, a month or a day
abbrev pub is_date : List ℕ → Bool
is_date text = is_some (days_of text)

-- a text is a value of its kind
abbrev pub is_of : ValueKind → List ℕ → Bool
is_of Text text = is_text text
is_of Note text = is_note text
is_of Language text = is_language text
is_of Color text = is_color text
is_of Url text = is_link text
is_of Template text = is_template OfLink text
is_of Article text = is_article text
is_of Prefix text = is_prefix text
is_of Occasion text = is_occasion text
is_of Package text = is_package text
is_of FileName text = is_package text
is_of Host text = is_host text
is_of Date text = is_date text
is_of _ text = false
