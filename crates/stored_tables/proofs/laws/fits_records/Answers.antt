use Rattle.stored_tables.proofs.Fits.{fits_records}
use Rattle.stored_tables.proofs.laws.fits_records.Goals as goal

pub returns : goal.returns
returns c = fits_records
