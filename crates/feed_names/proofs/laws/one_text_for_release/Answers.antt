use Rattle.feed_names.proofs.NameLemmas.{name_is_text}
use Rattle.feed_names.proofs.laws.one_text_for_release.Goals as goal

pub returns : goal.returns
returns c name text h = name_is_text c.one_date_for_day.ensures text name h
