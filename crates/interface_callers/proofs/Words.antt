-- The words of the plain machine and of the interface, as the callers of the interface use them.
pub use Rattle.vm_ids.specs.Counting.{MapperCounts, Rise, Rose, counts_sum, no_counts}
pub use Rattle.vm_ids.specs.Held.{Held, Segments, put_segment_page, segments_in, segments_of}
pub use Rattle.vm_ids.specs.Denying.{denies}
pub use Rattle.vm_ids.specs.declared.command.Command.{Command}
pub use Rattle.vm_ids.specs.declared.command.Mapping.{Mapping}
pub use Rattle.vm_ids.specs.declared.command.Span.{Span}
pub use Rattle.vm_ids.specs.declared.command.Extent.{Extent}
pub use Rattle.vm_ids.specs.declared.numbers.ActorId.{ActorId}
pub use Rattle.vm_ids.specs.declared.numbers.CacheId.{CacheId}
pub use Rattle.vm_ids.specs.declared.numbers.PageNo.{PageNo}
pub use Rattle.vm_ids.specs.declared.numbers.PortId.{PortId}
pub use Rattle.vm_ids.specs.declared.numbers.ProcId.{ProcId}
pub use Rattle.vm_ids.specs.declared.numbers.RegionId.{RegionId}
pub use Rattle.vm_ids.specs.declared.numbers.SegId.{SegId}
pub use Rattle.vm_ids.specs.declared.refusal.Refusal.{Refusal}
pub use Rattle.vm_ids.specs.declared.reply.FaultAt.{FaultAt}
pub use Rattle.vm_ids.specs.declared.reply.Reply.{Reply}
pub use Rattle.vm_ids.specs.declared.reply.Trouble.{Trouble}
pub use Rattle.vm_model.specs.Machine.{Actor, Cache, Machine, Page, Region, actor_of, cache_named, cache_of, is_locked_page, is_named_by, live_pages, living_actors, locks, locks_any, numbered, pages_in, segment_of, zero_page}
pub use Rattle.vm_model.specs.Answering.{Answer, Answered, add_region, answer_by, answer_of, insert_region, is_any_denied, is_any_locked, is_denied_page, is_mapped, maps_in, opened, overlaps, overlaps_itself, overwrite, page_at, passes_an_end, passes_end, put_cache, put_page, put_pages, put_span, refuse, region_of, reply, shares, temporary, without_region, write_at, zero_source}
unfoldable pub use Rattle.vm_model.specs.Answering.{copy_of, destroy_of, exit_actor_of, load_of, make_actor_of, make_temp_of, map_of, move_of, open_of, store_of, unless, with_ok, with_some}
pub use Rattle.vm_model.specs.Outcome.{BlankOutcome, HasWholePages, IsAlike, IsFirstAsked, IsNamed, IsNotRefused, IsWhole, MayFault, MayLackMemory, NotRefusedButFor, Outcome, OutcomeAt, blank, blank_cache, seen_at}
pub use Rattle.vm_model.specs.PageForest.{PageForest, forest_shown}
unfoldable pub use Rattle.vm_model.specs.PageForest.{plain_forest}
pub use Rattle.vm_model.specs.Place.{Place, holds, place, place_in, place_of_actor, placed, region_at}
pub use Rattle.vm_model.specs.Pushing.{MayPush, PushRule, page_named, segments_after}
pub use Rattle.vm_model.specs.Asking.{ReachesMapper, pages_touched}
pub use Rattle.vm_model.specs.declared.limits.TheConstants.{LIVE_PAGES, LIVING_ACTORS, MOST_MADE}
pub use Rattle.vm_port.specs.declared.traits.mapper.Mapper.{Ghosts as GhostsOfMapper}
pub use Rattle.gmi_calls.specs.Calling.{AnswersWithin, CallDone, Fits, MapperCall, RaisesMade, done_by}
pub use Rattle.gmi_calls.specs.Managing.{meanings_of}
pub use Rattle.gmi_calls.specs.Backing.{AreBacked, Backs}
pub use Rattle.gmi_calls.specs.Untold.{UntoldStep}
pub use Rattle.gmi_calls.specs.declared.gmi.Gmi.{Ghosts as GhostsOfGmi}
