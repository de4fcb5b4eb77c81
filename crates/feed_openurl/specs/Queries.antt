-- The query of the core for an OpenURL that is understood.
use Rattle.std.specs.Prelude.{Option, Some, None, Result, Ok, Err}
use Rattle.std.specs.Option.{option_and_then}
use Rattle.feed_answer.specs.QueryValue.{QueryValue}
use Rattle.feed_dates.specs.DayRanges.{query_days_of}
use Rattle.feed_kbart.specs.Volumes.{volume_of}
use Rattle.feed_openurl.specs.Values.{OpenUrlValue}
use Rattle.feed_openurl.specs.declared.fault.OpenUrlFault.{OpenUrlFault}

-- the query for the identifiers, the days and the volume that are understood
abbrev pub query_for : OpenUrlValue → QueryValue
query_for u = record {
  issns = u.issns;
  isbns = u.isbns;
  days = option_and_then query_days_of u.date;
  volume = option_and_then volume_of u.volume;
}

-- the query, or why there is nothing to look up
abbrev pub asked_as : Option OpenUrlFault → QueryValue → Result QueryValue OpenUrlFault
asked_as None query = Ok query
asked_as (Some reason) query = Err reason

abbrev pub asked_by : OpenUrlValue → Result QueryValue OpenUrlFault
asked_by u = asked_as u.refusal (query_for u)
