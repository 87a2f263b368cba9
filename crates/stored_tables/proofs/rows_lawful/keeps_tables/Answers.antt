use Rattle.record_store.specs.Limits.{record_limit}
use Rattle.stored_tables.proofs.Fits.{fits_records}
use Rattle.stored_tables.proofs.Sizes.{fits_more}
use Rattle.stored_tables.proofs.rows_lawful.keeps_tables.Goals as goal

pub returns : goal.returns
returns c = record {
  stands = λ records state is_state kept. (kept.0, (kept.1.0, fits_records record_limit records state kept.1.0 kept.0 is_state kept.1.1));
  keeps = λ records state few stands. (stands.0, (stands.1.0, fits_more records record_limit state stands.1.0 stands.0 few stands.1.1));
}
