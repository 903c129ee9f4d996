-- The pages of a range, and the pairs of a copy or move.
use Rattle.std.specs.Prelude.{◌≡◌, ℕ, ◌+◌, ◌<◌, ◌≤◌, List, length, slice_get, ◌↔◌, ◌⊎◌}
use Rattle.vm_ids.specs.declared.numbers.CacheId.{CacheId}
use Rattle.vm_ids.specs.declared.command.Span.{Span}
use Rattle.vm_ids.specs.declared.command.Extent.{Extent}
use Rattle.vm_ids.specs.declared.node_name.NodeName.{NodeName}
use Rattle.vm_ids.specs.Forest.NameLists.{◌∈◌, Once}
use Rattle.vm_ids.specs.Forest.Nodes.{Forest, IsNode}
use Rattle.vm_ids.specs.Forest.Commands.{page_name, page_names, extent_names, pages_at, page_pairs, span_pairs, firsts, seconds}
use Rattle.vm_ids.specs.Forest.Laws.Commands.{source_of, given, ArePagesOnce, CanCopy}

-- The n pages of cache c from page p on have nodes.
abbrev pub AreNodes : {P : Type 0} → Forest P → CacheId → ℕ → ℕ → Type 0
AreNodes f c p n = (i : ℕ) → i < n → IsNode f (page_name c (p + i))

-- The two ranges share no page.
abbrev pub IsApart : Span → Type 0
IsApart s =
    s.from ≡ s.to
    → (s.from_page.0 + s.pages ≤ s.to_page.0) ⊎ (s.to_page.0 + s.pages ≤ s.from_page.0)

-- The names of a range are those of its pages, each once.
abbrev pub RangesHoldTheirPages : Type 0
RangesHoldTheirPages = (c : CacheId) (p n : ℕ) (x : NodeName)
    → (x ∈ page_names c p n) ↔ ((i : ℕ) × (i < n) × (x ≡ page_name c (p + i)))

abbrev pub RangesHoldPagesOnce : Type 0
RangesHoldPagesOnce = (c : CacheId) (p n : ℕ) → Once (page_names c p n)

-- The pairs of a copy or move fill its destination from its source, page by page.
abbrev pub PairsFillDestinations : Type 0
PairsFillDestinations =
    (c d : CacheId) (p q n : ℕ) → firsts (page_pairs c p d q n) ≡ page_names d q n

abbrev pub PairsReadSources : Type 0
PairsReadSources = (c d : CacheId) (p q n : ℕ) → seconds (page_pairs c p d q n) ≡ page_names c p n

abbrev pub PairsKeepPlaces : Type 0
PairsKeepPlaces = (s : Span) (i : ℕ) → i < s.pages
    → source_of (span_pairs s) (page_name s.to (s.to_page.0 + i))
    ≡ page_name s.from (s.from_page.0 + i)

module _ (P : Type 0) where
  abbrev pub ExtentsArePages : Type 0
  ExtentsArePages =
      (f : Forest P) (e : Extent) → AreNodes f e.cache e.first.0 e.pages
      → ArePagesOnce f (extent_names e)

  -- Two ranges of live pages that share none can be copied or moved.
  abbrev pub SpansCanBeCopied : Type 0
  SpansCanBeCopied =
      (f : Forest P) (s : Span) → AreNodes f s.from s.from_page.0 s.pages
      → AreNodes f s.to s.to_page.0 s.pages
      → IsApart s → CanCopy f (span_pairs s)

  abbrev pub PagesHaveTheirNames : Type 0
  PagesHaveTheirNames =
      (c : CacheId) (p : ℕ) (vs : List P) → firsts (pages_at c p vs) ≡ page_names c p (length vs)

  abbrev pub PagesAreGiven : Type 0
  PagesAreGiven = (c : CacheId) (p : ℕ) (vs : List P) (i : ℕ) → i < length vs
      → given (pages_at c p vs) (page_name c (p + i)) ≡ slice_get vs i
