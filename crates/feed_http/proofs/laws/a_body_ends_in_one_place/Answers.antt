use Rattle.feed_http.proofs.ChunkLaw.{one_body, never_both}
use Rattle.feed_http.proofs.laws.a_body_ends_in_one_place.Goals as goal

pub returns-clause-one : goal.returns-clause-one
returns-clause-one c = one_body

pub returns-clause-never : goal.returns-clause-never
returns-clause-never c = never_both
