-- What a Report may have.
pub use Rattle.cluster_model.specs.Fits.{AreApart, AreBookable, KeysRise}
