-- How large the pages are that a mapper holds.
use Rattle.std.specs.Prelude.{◌≡◌, ℕ, List, length, Some}
use Rattle.vm_ids.specs.Held.{Held, page_of, slot_of}

-- Every page of every segment and of every slot has so many bytes.
pub record HasPagesOf (h : Held) (page_bytes : ℕ) : Type 0 where
  pub pages : (seg page : ℕ) (bytes : List ℕ) → page_of h seg page ≡ Some bytes
      → length bytes ≡ page_bytes
  pub slots : (slot : ℕ) (bytes : List ℕ) → slot_of h slot ≡ Some bytes
      → length bytes ≡ page_bytes
