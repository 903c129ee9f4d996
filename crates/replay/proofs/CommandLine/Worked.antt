-- Command lines, and what they ask for.
use Rattle.std.proofs.Common.{◌≡◌, List, ℕ, [], ◌∷◌, map, Option, Some, None, codes, refl}
use Rattle.std.specs.Fmt.{digits}
use Rattle.actor_script.specs.Operands.{number_of}
use Rattle.actor_script.specs.Words.{words_of}
use Rattle.replay.specs.declared.asked.Asked.{Asked}
use Rattle.replay.specs.declared.asked.Asked.TheVariants as asks
use Rattle.replay.specs.Commanding.{asked_by, options_among, options_of, others_among}

abbrev runs : ℕ → ℕ → Option Asked
runs frames page = Some (asks.Run (record { frames = frames; page_bytes = page }))

abbrev generates : ℕ → ℕ → Option Asked
generates number lines = Some (asks.Generate (record { number = number; lines = lines }))

abbrev tries : ℕ → ℕ → ℕ → Option Asked
tries number lines frames = Some (asks.Trial (record { number = number; lines = lines }) frames)

abbrev mixes : ℕ → Option Asked
mixes frames = Some (asks.Mix frames)

abbrev posts : ℕ → Option Asked
posts frames = Some (asks.Ipc frames)

abbrev keeps : ℕ → ℕ → Option Asked
keeps limit frames = Some (asks.Keep limit frames)

abbrev flats : ℕ → Option Asked
flats frames = Some (asks.Flat frames)

abbrev line_asks : List ℕ → Option Asked
line_asks line = asked_by (words_of line)

abbrev Row : Type 0
Row = List ℕ × Option Asked

abbrev rows : List Row
rows = (codes "run --frames 8", runs 8 4096)
    ∷ (codes "run --page=512 --segments=a=b --frames=3", runs 3 512)
    ∷ (codes "run --segments d --frames 4096 --page 65536", runs 4096 65536)
    ∷ (codes "run --frames 4097 --page 65536", None)
    ∷ (codes "run --frames 8 --page 1000", None)
    ∷ (codes "run --frames 8 --frames=8", None)
    ∷ (codes "run --frames 8 --", None)
    ∷ (codes "run --frames 8 --segments", None)
    ∷ (codes "run --frames 8 --segments=", None)
    ∷ (codes "run --frames 8 --segments -x", None)
    ∷ (codes "run --frame 8", None)
    ∷ (codes "run --frames 08", None)
    ∷ (codes "run --page 512", None)
    ∷ (codes "run", None)
    ∷ (codes "generate 4294967295 1000000", generates 4294967295 1000000)
    ∷ (codes "generate 0 0", None)
    ∷ (codes "generate 0 01", None)
    ∷ (codes "generate 0 1000001", None)
    ∷ (codes "generate 4294967296 1", None)
    ∷ (codes "generate 0", None)
    ∷ (codes "generate 0 1 --frames 8", None)
    ∷ (codes "trial 0 11 --frames 8", tries 0 11 8)
    ∷ (codes "trial --frames=8 0 --segments d 11", tries 0 11 8)
    ∷ (codes "trial --segments=d --frames 8 0 11", tries 0 11 8)
    ∷ (codes "trial 0 --frames 8 11", tries 0 11 8)
    ∷ (codes "trial 0 11", None)
    ∷ (codes "trial 0 11 12 --frames 8", None)
    ∷ (codes "trial 0 --frames 8", None)
    ∷ (codes "trial 0 11 --frames 8 --page 4096", None)
    ∷ (codes "trial 0 11 --frames 8 --page", None)
    ∷ (codes "trial 0 11 --frames 2", None)
    ∷ (codes "trial 0 11 --frames 8 --", None)
    ∷ (codes "trial -- 0 11 --frames 8", None)
    ∷ (codes "trial 0 11 --frame 8", None)
    ∷ (codes "trial 0 11 --frames 8 --frames 8", None)
    ∷ (codes "trial -1 11 --frames 8", None)
    ∷ (codes "mix --frames 65536", mixes 65536)
    ∷ (codes "mix --segments=d --frames=3", mixes 3)
    ∷ (codes "mix", None)
    ∷ (codes "mix --frames 2", None)
    ∷ (codes "mix --frames 65537", None)
    ∷ (codes "mix --frames 8 --page 4096", None)
    ∷ (codes "mix --frames 8 --frames 8", None)
    ∷ (codes "mix 0 11 --frames 8", None)
    ∷ (codes "mix --frames 8 --", None)
    ∷ (codes "ipc --frames 3", posts 3)
    ∷ (codes "ipc --segments d --frames=65536", posts 65536)
    ∷ (codes "ipc", None)
    ∷ (codes "ipc --frames 8 --page 4096", None)
    ∷ (codes "keep --limit 0 --frames 3", keeps 0 3)
    ∷ (codes "keep --frames=8 --segments d --limit=1024", keeps 1024 8)
    ∷ (codes "keep --limit 1025 --frames 8", None)
    ∷ (codes "keep --limit 01 --frames 8", None)
    ∷ (codes "keep --frames 8", None)
    ∷ (codes "keep --limit 1", None)
    ∷ (codes "keep --limit 1 --frames 8 --page 4096", None)
    ∷ (codes "mix --limit 1 --frames 8", None)
    ∷ (codes "flat --frames 3", flats 3)
    ∷ (codes "flat --segments d --frames=65536", flats 65536)
    ∷ (codes "flat", None)
    ∷ (codes "flat --frames 8 --page 4096", None)
    ∷ (codes "flat --limit 1 --frames 8", None)
    ∷ (codes "help", None)
    ∷ []

each_asks : map (λ (row : Row). line_asks row.0) rows ≡ map (λ (row : Row). row.1) rows
unfolding asked_by options_of options_among others_among number_of digits words_of
each_asks = refl
