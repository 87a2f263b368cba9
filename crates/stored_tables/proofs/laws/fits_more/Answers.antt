use Rattle.stored_tables.proofs.Sizes.{fits_more}
use Rattle.stored_tables.proofs.laws.fits_more.Goals as goal

pub returns : goal.returns
returns c = fits_more
