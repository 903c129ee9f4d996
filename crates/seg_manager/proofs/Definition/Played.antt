-- The definitions compute the worked scripts.
use Rattle.std.proofs.Common.{refl}
use Rattle.vm_model.specs.Answering as plain
use Rattle.seg_manager.specs.Answering.{close_of, make_temp_of, open_of}
use Rattle.seg_manager.specs.Rows.{KeptCacheComesAgain, NothingIsKept}

pub kept_cache_comes_again : KeptCacheComesAgain
unfolding close_of make_temp_of open_of plain.make_actor_of plain.copy_of plain.map_of plain.unmap_of plain.load_of plain.store_of plain.unless plain.with_some plain.with_ok
kept_cache_comes_again = record { answers = refl }

pub nothing_is_kept : NothingIsKept
unfolding close_of make_temp_of open_of plain.make_actor_of plain.copy_of plain.map_of plain.unmap_of plain.load_of plain.store_of plain.unless plain.with_some plain.with_ok
nothing_is_kept = record { answers = refl; stored = refl }
