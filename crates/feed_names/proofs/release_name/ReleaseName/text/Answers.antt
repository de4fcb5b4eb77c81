use Rattle.feed_names.proofs.NameLemmas.{name_is_text}
use Rattle.feed_names.proofs.release_name.ReleaseName.text.Goals as goal

pub returns-clause-value : goal.returns-clause-value
returns-clause-value c = rw (c.deref.ensures.value, ← c.self.view_is) (name_is_text c.one_date_for_day.ensures c.self.inside.text.items _ c.self.invariant)
