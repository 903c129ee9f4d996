-- The bytes of a frame, lent.
use Rattle.std.specs.Prelude.{ℕ, List, ◌++◌, length, take, drop, slice_range}
use Rattle.std.specs.Borrow.{Lends, MutBor, Fml, RattleType, Array, u8}
use Rattle.std.specs.Vec.{with_items_from}
use Rattle.std.specs.declared.alloc.Global.{Global}
use Rattle.std.specs.declared.vec.Vec.{Vec}
use Rattle.std.specs.contracts.alloc.Global as global
use Rattle.std.specs.contracts.vec.Vec as vec
use Rattle.std.specs.contracts.impls.GlobalAllocator.TheImpl.{ghosts}
use Rattle.frame_pool.specs.Pool.{Frames, bytes_of, with_bytes}
use Rattle.frame_pool.specs.contracts.pool.FramePool.{the_row}

-- w in place of the old bytes; where it is as long, as each write through a slice is, w itself
abbrev pub refill : List ℕ → List ℕ → List ℕ
refill old w = take (length old) (w ++ drop (length w) old)

-- the pool ends with the last value behind r as the bytes of the frame
abbrev pub LendsPage : MutBor Frames → ℕ → MutBor (List ℕ) → Fml
LendsPage p frame r =
    Lends the_row (Array u8 0) p r (λ w. with_bytes p.now frame (refill (bytes_of p.now frame) w))

-- a `Vec<u8>`, as the logic names it
abbrev pub bytes_row : RattleType
bytes_row = vec.the_row u8 global.the_row ghosts

-- the vector ends with the last value behind r from start on, however long that is
abbrev pub LendsRun : MutBor (Vec ℕ Global) → ℕ → MutBor (List ℕ) → Fml
LendsRun bytes start r = Lends bytes_row (Array u8 0) bytes r (with_items_from bytes.now start)

-- the vector ends with the last value behind r in place of its bytes from start up to end
abbrev pub LendsPart : MutBor (Vec ℕ Global) → ℕ → ℕ → MutBor (List ℕ) → Fml
LendsPart bytes start end r =
    Lends bytes_row (Array u8 0) bytes r
    (λ w. with_items_from bytes.now start (refill (slice_range bytes.now.items start end) w))
