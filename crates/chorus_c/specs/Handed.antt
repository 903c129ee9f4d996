-- What C holds.
use base.Fml.{Fml}
use base.Fraction.{full_share}
use denote.RawPtr.{Ptr, lies_at, room_at}
use Rattle.chorus_c.specs.contracts.exchange.Exchange.{the_row as exchange_row}
use Rattle.chorus_c.specs.contracts.handle.Handle.{the_row as handle_row}
use Rattle.chorus_c.specs.declared.exchange.Exchange.{Exchange}
use Rattle.chorus_c.specs.declared.handle.Handle.{Handle}

-- room for a machine at a pointer
abbrev pub room_for_handle : Ptr → Fml
room_for_handle at = room_at handle_row at

-- a machine, open or closed, at a pointer
abbrev pub handle_at : Ptr → Handle → Fml
handle_at at h = lies_at handle_row full_share at h

-- an exchange at a pointer
abbrev pub exchange_at : Ptr → Exchange → Fml
exchange_at at e = lies_at exchange_row full_share at e
