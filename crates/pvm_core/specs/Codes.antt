-- A code, so that what a manager keeps can be the value of a model.
use Rattle.std.specs.Prelude.{ℕ, Bool, List, Option, refl}
use Rattle.std.specs.Coded.{Coded, code_by, coded×, coded_bool, coded_ℕ, coded_list, coded_option}
use Rattle.vm_ids.specs.declared.numbers.NodeId.{NodeId}
use Rattle.frame_pool.specs.Pool.{Frames}
use Rattle.local_cache.specs.Arena.{Arena}
use Rattle.local_cache.specs.Codes.{arena_code}
use Rattle.page_tables.specs.declared.entry.Entry.{Entry}
use Rattle.residency.specs.declared.store.Store.{Store}
use Rattle.vm_model.specs.Machine.{Actor, Region}
use Rattle.pvm_core.specs.Manager.{Manager}

abbrev node_code : Coded NodeId
node_code = code_by ℕ coded_ℕ (λ n. n.0) (λ k. record { 0 = k }) (λ _. refl)

abbrev frames_code : Coded Frames
frames_code = code_by (ℕ × (List Bool × (List Bool × List (List ℕ))))
    (coded× coded_ℕ (coded× (coded_list coded_bool)
    (coded× (coded_list coded_bool) (coded_list (coded_list coded_ℕ)))))
    (λ p. (p.page, (p.held, (p.pinned, p.bytes))))
    (λ t. record { page = t.0; held = t.1.0; pinned = t.1.1.0; bytes = t.1.1.1 })
    (λ _. refl)

abbrev entry_code : Coded Entry
entry_code = code_by (ℕ × (ℕ × (ℕ × Bool)))
    (coded× coded_ℕ (coded× coded_ℕ (coded× coded_ℕ coded_bool)))
    (λ e. (e.actor.0, (e.page, (e.to.frame.0, e.to.writable))))
    (λ t. record {
      actor = record { 0 = t.0 };
      page = t.1.0;
      to = record { frame = record { 0 = t.1.1.0 }; writable = t.1.1.1 };
    })
    (λ _. refl)

abbrev store_code : Coded Store
store_code = code_by
    (Frames × (List Bool × (List (Option NodeId) × (List Bool × List (Option Entry)))))
    (coded× frames_code (coded× (coded_list coded_bool)
    (coded× (coded_list (coded_option node_code)) (coded× (coded_list coded_bool)
    (coded_list (coded_option entry_code))))))
    (λ s. (s.frames, (s.slots, (s.map, (s.marks, s.tables)))))
    (λ t. record {
      frames = t.0;
      slots = t.1.0;
      map = t.1.1.0;
      marks = t.1.1.1.0;
      tables = t.1.1.1.1;
    })
    (λ _. refl)

abbrev region_code : Coded Region
region_code = code_by (ℕ × (ℕ × (ℕ × (Bool × (ℕ × (ℕ × Bool))))))
    (coded× coded_ℕ (coded× coded_ℕ (coded× coded_ℕ
    (coded× coded_bool (coded× coded_ℕ (coded× coded_ℕ coded_bool))))))
    (λ r. (r.number, (r.start, (r.pages, (r.may_write, (r.cache, (r.offset, r.locked)))))))
    (λ t. record {
      number = t.0;
      start = t.1.0;
      pages = t.1.1.0;
      may_write = t.1.1.1.0;
      cache = t.1.1.1.1.0;
      offset = t.1.1.1.1.1.0;
      locked = t.1.1.1.1.1.1;
    })
    (λ _. refl)

abbrev pub manager_code : Coded Manager
manager_code = code_by (Arena × (Store × (ℕ × (List (Option Actor) × ℕ))))
    (coded× arena_code (coded× store_code (coded× coded_ℕ
    (coded× (coded_list (coded_option (coded_list region_code))) coded_ℕ))))
    (λ p. (p.caches, (p.store, (p.page_bytes, (p.actors, p.regions_made)))))
    (λ t. record {
      caches = t.0;
      store = t.1.0;
      page_bytes = t.1.1.0;
      actors = t.1.1.1.0;
      regions_made = t.1.1.1.1;
    })
    (λ _. refl)
