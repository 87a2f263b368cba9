-- Which tables a state of the records stands for.
use Rattle.plain_data.specs.State.{State}
use Rattle.record_store.specs.Limits.{record_limit}
use Rattle.replay_model.specs.TableMap.{TableMap}
use Rattle.stored_tables.specs.Tables.{StandsForSome}

-- those that it stands for among as many records as a store may have
abbrev pub stands : State → TableMap → Type 0
stands = StandsForSome record_limit
