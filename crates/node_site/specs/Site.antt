-- The settings of a library in its site file.
use Rattle.std.specs.Prelude.{ℕ, ℤ, Bool, true, false, List, [], ◌∷◌, Option, Some, None, option_map, unwrap_or, codes, if◌then◌else◌}
use Rattle.std.specs.Option.{option_and_then}
use Rattle.std.specs.Str.{bytes_eq}
use Rattle.toml.specs.Data.{Items, no_items, item, Members, no_members, member, as_str, as_table}
use Rattle.feed_dates.specs.declared.day_range.DayRange.{DayRange}
use Rattle.node_site.specs.declared.occasion.LinkOccasion.{LinkOccasion}
use Rattle.node_site.specs.declared.occasion.LinkOccasion.TheVariants.{Always, Hits, NoHits, Embargoed}
use Rattle.node_site.specs.Lookups.{text_at, switch_at, items_at, table_at}
use Rattle.node_site.specs.Faults.{days_at}

-- what the library has of a package or a title: nothing, or the days from a first to a last, counted from 1970-01-01
pub record HoldingValue : Type 0 where
  pub is_held : Bool
  pub first : Option ℤ
  pub last : Option ℤ

-- a package, the name that readers see, the address of its articles, a note for readers, whether its links may go through a
-- proxy, and what the library has of it
pub record PackageValue : Type 0 where
  pub id : List ℕ
  pub name : Option (List ℕ)
  pub article : Option (List ℕ)
  pub note : Option (List ℕ)
  pub is_proxied : Bool
  pub holding : HoldingValue

-- a title of a package, a note for readers, and what the library has of it. In a holdings file, a row without a title is about
-- the whole package
pub record TitleValue : Type 0 where
  pub package_id : List ℕ
  pub id : List ℕ
  pub note : Option (List ℕ)
  pub holding : HoldingValue

-- a platform by its host: the address of its articles, and the prefix of its links in place of the site's, which may take them
-- percent-encoded
pub record PlatformValue : Type 0 where
  pub host : List ℕ
  pub article : Option (List ℕ)
  pub prefix : Option (List ℕ)
  pub encodes : Bool

-- a link of the library: what readers see, its address with names in braces, and when it is shown
pub record LinkRuleValue : Type 0 where
  pub label : List ℕ
  pub address : List ℕ
  pub occasion : LinkOccasion

-- a text of the pages that the site replaces, by its name; a value that is not a text is none
pub record ReplacedValue : Type 0 where
  pub name : List ℕ
  pub words : Option (List ℕ)

-- a site: what it says of the library, whether a browser is redirected to a sole hit, whether the library has what no table
-- mentions, the name of its holdings file, the texts that it replaces, the prefix of links, whether that takes them
-- percent-encoded, and the hosts that need none, the platforms, the packages in the order in which they are shown, the titles,
-- the links of the library, and the text of the holdings file
pub record SiteValue : Type 0 where
  pub name : Option (List ℕ)
  pub language : Option (List ℕ)
  pub color : Option (List ℕ)
  pub help : Option (List ℕ)
  pub contact : Option (List ℕ)
  pub request : Option (List ℕ)
  pub redirects_sole_hit : Bool
  pub holds_unlisted : Bool
  pub holdings : Option (List ℕ)
  pub replaced : List ReplacedValue
  pub prefix : Option (List ℕ)
  pub encodes : Bool
  pub except : List (List ℕ)
  pub platforms : List PlatformValue
  pub packages : List PackageValue
  pub titles : List TitleValue
  pub links : List LinkRuleValue
  pub listing : List ℕ

-- the text at a key of a section
abbrev pub text_in : List ℕ → List ℕ → Members → Option (List ℕ)
text_in section key doc = option_and_then (text_at key) (table_at section doc)

-- whether a switch of a section is on, and what it is without the key
abbrev pub switch_in : List ℕ → List ℕ → Bool → Members → Bool
switch_in section key otherwise doc = unwrap_or (option_and_then (switch_at key) (table_at section doc)) otherwise

-- a text, or the empty one
abbrev pub or_empty : Option (List ℕ) → List ℕ
or_empty text = unwrap_or text []

-- the texts of a list
abbrev pub texts_of : Items → List (List ℕ)
texts_of no_items = []
texts_of (item d ds) = or_empty (as_str d) ∷ texts_of ds

abbrev pub texts_in : Option Items → List (List ℕ)
texts_in None = []
texts_in (Some items) = texts_of items

-- the texts of a table
abbrev pub replaced_of : Members → List ReplacedValue
replaced_of no_members = []
replaced_of (member key d ms) = record { name = key; words = as_str d } ∷ replaced_of ms

abbrev pub replaced_in : Option Members → List ReplacedValue
replaced_in None = []
replaced_in (Some ms) = replaced_of ms

-- the text that replaces that of a name, if there is one
abbrev pub replacement : List ℕ → List ReplacedValue → Option (List ℕ)
replacement name [] = None
replacement name (text ∷ texts) = if bytes_eq name text.name then text.words else replacement name texts

-- the list of the hosts that need no proxy
abbrev pub except_in : Members → Option Items
except_in doc = option_and_then (items_at (codes "except")) (table_at (codes "proxy") doc)

abbrev pub first_day : DayRange → ℤ
first_day days = days.first

abbrev pub last_day : DayRange → ℤ
last_day days = days.last

-- what the library has of the package or title of a table: all of it, where the table says nothing
abbrev pub holding_of : Members → HoldingValue
holding_of ms = record {
  is_held = unwrap_or (switch_at (codes "held") ms) true;
  first = option_map first_day (days_at (codes "first") ms);
  last = option_map last_day (days_at (codes "last") ms);
}

abbrev pub package_of : Members → PackageValue
package_of ms = record {
  id = or_empty (text_at (codes "id") ms);
  name = text_at (codes "name") ms;
  article = text_at (codes "article") ms;
  note = text_at (codes "note") ms;
  is_proxied = unwrap_or (switch_at (codes "proxy") ms) true;
  holding = holding_of ms;
}

abbrev pub title_of : Members → TitleValue
title_of ms = record {
  package_id = or_empty (text_at (codes "package") ms);
  id = or_empty (text_at (codes "id") ms);
  note = text_at (codes "note") ms;
  holding = holding_of ms;
}

abbrev pub platform_of : Members → PlatformValue
platform_of ms = record {
  host = or_empty (text_at (codes "host") ms);
  article = text_at (codes "article") ms;
  prefix = text_at (codes "prefix") ms;
  encodes = unwrap_or (switch_at (codes "encode") ms) false;
}

-- when a link is shown: always, where nothing is said
abbrev pub occasion_of : List ℕ → LinkOccasion
occasion_of text =
    if bytes_eq text (codes "hits") then Hits
    else if bytes_eq text (codes "no-hits") then NoHits
    else if bytes_eq text (codes "embargoed") then Embargoed
    else Always

abbrev pub link_of : Members → LinkRuleValue
link_of ms = record {
  label = or_empty (text_at (codes "label") ms);
  address = or_empty (text_at (codes "address") ms);
  occasion = occasion_of (or_empty (text_at (codes "when") ms));
}

-- the tables of a list, each by a function
abbrev pub row_or : {A : Type 0} → (Members → A) → Option Members → List A → List A
row_or make (Some ms) rest = make ms ∷ rest
row_or make None rest = rest

abbrev pub rows_of : {A : Type 0} → (Members → A) → Items → List A
rows_of make no_items = []
rows_of make (item d ds) = row_or make (as_table d) (rows_of make ds)

abbrev pub rows_in : {A : Type 0} → (Members → A) → Option Items → List A
rows_in make None = []
rows_in make (Some items) = rows_of make items

-- the site that a document describes
unfoldable pub site_of : Members → SiteValue
site_of doc = record {
  name = text_in (codes "library") (codes "name") doc;
  language = text_in (codes "library") (codes "language") doc;
  color = text_in (codes "library") (codes "color") doc;
  help = text_in (codes "library") (codes "help") doc;
  contact = text_in (codes "library") (codes "contact") doc;
  request = text_in (codes "library") (codes "request") doc;
  redirects_sole_hit = switch_in (codes "library") (codes "redirect_sole_hit") false doc;
  holds_unlisted = switch_in (codes "library") (codes "held") true doc;
  holdings = text_in (codes "library") (codes "holdings") doc;
  replaced = replaced_in (table_at (codes "texts") doc);
  prefix = text_in (codes "proxy") (codes "prefix") doc;
  encodes = switch_in (codes "proxy") (codes "encode") false doc;
  except = texts_in (except_in doc);
  platforms = rows_in platform_of (items_at (codes "platform") doc);
  packages = rows_in package_of (items_at (codes "package") doc);
  titles = rows_in title_of (items_at (codes "title") doc);
  links = rows_in link_of (items_at (codes "link") doc);
  listing = [];
}

-- the site with its holdings file
abbrev pub with_listing : List ℕ → SiteValue → SiteValue
with_listing text site = record site { listing = text }
