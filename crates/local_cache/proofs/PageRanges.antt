-- The nodes of pages that follow one another.
use Rattle.std.proofs.Common.{◌≡◌, ℕ, ◌+◌, ◌-◌, ◌<◌, true, None, refl, sym, ap, ◌∙◌, arith}
use Rattle.std.proofs.lemmas.Bool.{cond-true}
use Rattle.std.specs.FinMap as map
use Rattle.stretches.specs.Rising.{rising}
use Rattle.stretches.specs.Stretch.{is_in}
use Rattle.stretches.specs.declared.rising.Rising.{Rising}
use Rattle.stretches.specs.declared.stretch.Stretch.{Stretch}
use Rattle.stretches.proofs.Reading.Numbers.{high, low, within}
use Rattle.mixed_map.specs.Mixed.{with_stretch, without_range}
use Rattle.mixed_map.proofs.Telling.{gone}
use Rattle.vm_ids.specs.declared.node_name.NodeName.{NodeName}
use Rattle.vm_ids.specs.declared.node_name.NodeName.TheVariants.{Live, Working}
use Rattle.vm_ids.specs.declared.numbers.NodeId.{NodeId}
use Rattle.local_cache.specs.ManyNodes.{next_node}
use Rattle.local_cache.specs.NodeKeys.{page_number}
use Rattle.local_cache.specs.Pages.{HaveNodes, Pages, pages_from, with_pages}
use Rattle.local_cache.proofs.Stretched.{each_told, len_come, len_put, put_again}

-- what the pages are told
abbrev pub node_told : Rising → NodeId
node_told v = record { 0 = v.0 }

abbrev pub pages_of : ℕ → NodeId → ℕ → Stretch Rising
pages_of page n count = record { first = page; count = count; value = record { 0 = n.0 } }

pub pages_told : (m : Pages) (page : ℕ) (n : NodeId) (count : ℕ) → pages_from m page n count ≡ with_stretch rising node_told m (pages_of page n count)
pages_told m page n count = each_told rising node_told m (pages_of page n count) (next_node n) (λ k. refl) count

-- pages that have other nodes first have none
pub pages_again : (m : Pages) (page : ℕ) (n : NodeId) (count : ℕ) → pages_from (without_range m page count) page n count ≡ pages_from m page n count
pages_again m page n count =
    pages_told (without_range m page count) page n count ∙ put_again rising node_told m (pages_of page n count) ∙ sym (pages_told m page n count)

-- vacant pages one by one
pub vacant_pages : (m : Pages) (page : ℕ) (n : NodeId) (count : ℕ) → ((k : ℕ) → k < count → map.get m (page + k) ≡ None) → (q : ℕ) → is_in (pages_of page n count) q ≡ true → map.get m q ≡ None
vacant_pages m page n count vacant q h =
    let from = low (pages_of page n count) q h in
    let to = high (pages_of page n count) q h in
    let far : q ≡ page + (q - page) = omega (arith, from) in
    ap (map.get m) far ∙ vacant (q - page) (omega (arith, from, to))

pub left_pages : (m : Pages) (page : ℕ) (n : NodeId) (count k : ℕ) → k < count → map.get (without_range m page count) (page + k) ≡ None
left_pages m page n count k less =
    gone m (pages_of page n count) (page + k) ∙ cond-true _ _ _ (within (pages_of page n count) (page + k) (omega arith) (omega (arith, less)))

-- how many have nodes then
pub len_pages : (m : Pages) (page : ℕ) (n : NodeId) (count : ℕ) → ((k : ℕ) → k < count → map.get m (page + k) ≡ None) → map.len (pages_from m page n count) ≡ map.len m + count
len_pages m page n count vacant = ap map.len (pages_told m page n count) ∙ len_come rising node_told m (pages_of page n count) count vacant

-- pages that have other nodes are as many
pub len_with : (m : Pages) (x : NodeName) (n : NodeId) (count : ℕ) → HaveNodes m x count → map.len (with_pages m x n count) ≡ map.len m
len_with m (Working k) n count held = refl
len_with m (Live cache page) n count held =
    ap map.len (pages_told m (page_number cache.0 page.0) n count) ∙ len_put rising node_told m (pages_of (page_number cache.0 page.0) n count) count held
