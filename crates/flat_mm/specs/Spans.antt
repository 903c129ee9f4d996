-- When pages may be copied or moved.
use Rattle.std.specs.Prelude.{◌≡◌, ◌+◌, ◌≤◌, ◌^◌, false, None, Some, length}
use Rattle.vm_ids.specs.declared.command.Span.{Span}
use Rattle.vm_model.specs.Answering.{is_any_locked, overlaps_itself}
use Rattle.vm_model.specs.Machine.{numbered}
use Rattle.flat_mm.specs.Manager.{Manager, machine_in}
use Rattle.flat_mm.specs.Store.{Cache, Store}

-- The pages of a copy or a move are there.
pub record IsSpanned (s : Store) (span : Span) : Type 0 where
  pub source : Cache
  pub destination : Cache
  pub from : numbered s.caches span.from.0 ≡ Some source
  pub to : numbered s.caches span.to.0 ≡ Some destination
  pub inside : span.from_page.0 + span.pages ≤ length source.pages
  pub within : span.to_page.0 + span.pages ≤ length destination.pages
  pub small : length source.pages ≤ 2 ^ 16
  pub few : length destination.pages ≤ 2 ^ 16

-- Nothing but the mapper can refuse the copy.
pub record CanCopy (p : Manager) (span : Span) : Type 0 where
  pub spanned : IsSpanned p.store span
  pub apart : overlaps_itself span ≡ false
  pub unlocked : is_any_locked (machine_in p) span.to span.to_page.0 span.pages ≡ false

-- nor the move
pub record CanMove (p : Manager) (span : Span) : Type 0 where
  pub copy : CanCopy p span
  pub temporary : copy.spanned.source.segment ≡ None
  pub left : is_any_locked (machine_in p) span.from span.from_page.0 span.pages ≡ false
