-- The templates of the links to articles.
use Rattle.std.specs.Prelude.{ℕ, List, Option}
use Rattle.std.specs.List.{find}
use Rattle.std.specs.Option.{option_and_then, option_or}
use Rattle.node_site.specs.Held.{is_package}
use Rattle.node_site.specs.Hosts.{host_of}
use Rattle.node_site.specs.Platforms.{platform_at}
use Rattle.node_site.specs.Site.{PackageValue, PlatformValue, SiteValue}

abbrev pub article_of_package : PackageValue → Option (List ℕ)
article_of_package rule = rule.article

abbrev pub article_of_platform : PlatformValue → Option (List ℕ)
article_of_platform rule = rule.article

-- the template that a package has for the addresses of articles, and that of the platform at a host
abbrev pub package_article : SiteValue → List ℕ → Option (List ℕ)
package_article site id = option_and_then article_of_package (find (is_package id) site.packages)

abbrev pub platform_article : SiteValue → List ℕ → Option (List ℕ)
platform_article site host = option_and_then article_of_platform (platform_at site.platforms host)

-- the template for the articles of a row: that of its package decides over that of the platform to which its URL leads
abbrev pub article_template : SiteValue → List ℕ → List ℕ → Option (List ℕ)
article_template site id url = option_or (package_article site id) (option_and_then (platform_article site) (host_of url))
