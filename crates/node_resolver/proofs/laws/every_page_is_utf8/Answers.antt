use Rattle.node_response.proofs.Utf8Texts.{pages_in_utf8}
use Rattle.node_resolver.specs.Responses.{tagged_response}
use Rattle.node_resolver.proofs.laws.every_page_is_utf8.Goals as goal

pub returns : goal.returns
returns c = λ site head body actives h. pages_in_utf8 site.library.redirects_sole_hit (tagged_response site head body actives) h
