-- The pages that a span names.
use Rattle.std.proofs.Common.{◌≡◌, ℕ, ◌+◌, ◌<◌, List, sym, subst, refl}
use Rattle.vm_ids.specs.declared.command.Span.{Span}
use Rattle.vm_ids.specs.declared.node_name.NodeName.{NodeName}
use Rattle.vm_ids.specs.Forest.Commands.{firsts, page_name, page_names, seconds, span_pairs}
use Rattle.vm_ids.specs.Forest.Laws.Commands.{CanCopy}
use Rattle.vm_ids.specs.Forest.Laws.Ranges.{AreNodes}
use Rattle.vm_ids.specs.Forest.Nodes.{Forest}
use Rattle.vm_ids.specs.Forest.NameLists.{◌∈◌}
use Rattle.vm_ids.proofs.Forest.Laws.Ranges.{pairs_fill_destinations, pairs_read_sources, ranges_hold_their_pages}

pub is_destination : (s : Span) (i : ℕ) → i < s.pages → page_name s.to (s.to_page.0 + i) ∈ firsts (span_pairs s)
is_destination s i low = subst (λ (xs : List NodeName). page_name s.to (s.to_page.0 + i) ∈ xs) (sym (pairs_fill_destinations s.from s.to s.from_page.0 s.to_page.0 s.pages))
    ((ranges_hold_their_pages s.to s.to_page.0 s.pages (page_name s.to (s.to_page.0 + i))).1 (i, low, refl))

pub is_source : (s : Span) (i : ℕ) → i < s.pages → page_name s.from (s.from_page.0 + i) ∈ seconds (span_pairs s)
is_source s i low = subst (λ (xs : List NodeName). page_name s.from (s.from_page.0 + i) ∈ xs) (sym (pairs_read_sources s.from s.to s.from_page.0 s.to_page.0 s.pages))
    ((ranges_hold_their_pages s.from s.from_page.0 s.pages (page_name s.from (s.from_page.0 + i))).1 (i, low, refl))

-- the pages that a copy or move fills
pub destination_names : (s : Span) → firsts (span_pairs s) ≡ page_names s.to s.to_page.0 s.pages
destination_names s = pairs_fill_destinations s.from s.to s.from_page.0 s.to_page.0 s.pages

pub destination_nodes : {P : Type 0} (f : Forest P) (s : Span) → CanCopy f (span_pairs s) → AreNodes f s.to s.to_page.0 s.pages
destination_nodes f s can i low = (can.destinations.live (page_name s.to (s.to_page.0 + i)) (is_destination s i low)).0

-- the pages that it takes them from
pub source_names : (s : Span) → seconds (span_pairs s) ≡ page_names s.from s.from_page.0 s.pages
source_names s = pairs_read_sources s.from s.to s.from_page.0 s.to_page.0 s.pages

pub source_nodes : {P : Type 0} (f : Forest P) (s : Span) → CanCopy f (span_pairs s) → AreNodes f s.from s.from_page.0 s.pages
source_nodes f s can i low = (can.sources (page_name s.from (s.from_page.0 + i)) (is_source s i low)).0
