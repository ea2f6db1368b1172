use Rattle.derive_snapshot.proofs.Saving.{rows_begin}
use Rattle.derive_snapshot.proofs.Snapshot.of.Goals as goal

pub save_starts-requires : goal.save_starts-requires
save_starts-requires c = rows_begin 8 _ _ c.requires.starts_in_use

pub save_maps-requires : goal.save_maps-requires
save_maps-requires c = rows_begin 6 _ _ c.requires.maps_in_use
