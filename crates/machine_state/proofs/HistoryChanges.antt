-- What a change leaves of a lawful history.
use Rattle.std.proofs.Common.{◌≡◌, ℕ, ◌+◌, ◌-◌, ◌<◌, ◌≤◌, List, [], ◌∷◌, ◌++◌, length, take, drop, arith, true}
use Rattle.std.specs.Prelude.{All, AllPairs}
use Rattle.std.proofs.lemmas.List.{get_or-take, get_or-drop, length-take, length-drop, length-append}
use Rattle.std.proofs.lemmas.List.Elements.{All-take, All-drop, All-push}
use Rattle.std.proofs.lemmas.List.Quantifiers.{all_pairs_push}
use Rattle.history_machine.specs.History.{Past}
use Rattle.machine_state.specs.KeptHistories.{IsKept}
use Rattle.fs_types.specs.declared.call.Version.{Version}

-- the serials ascend, from 1 on and below the next one
pub record IsAscending {R : Type 0} (next : ℕ) (vs : List (Version R)) : Type 0 where
  pub ascending : AllPairs (λ v w. v.serial < w.serial) vs
  pub below_next : All (λ v. v.serial < next) vs
  pub from_one : All (λ v. 0 < v.serial) vs

module _ {R : Type 0} where
  pub ascending_take : (n next : ℕ) (vs : List (Version R)) → IsAscending next vs → IsAscending next (take n vs)
  ascending_take n next vs h = record {
    ascending = λ i j d before within.
        let j_in : j < n = omega (arith, length-take n vs) in
        let i_in : i < n = omega arith in
        rw (get_or-take n vs i d i_in, get_or-take n vs j d j_in) (h.ascending i j d before (omega (arith, length-take n vs)));
    below_next = All-take (λ v. v.serial < next) n vs h.below_next;
    from_one = All-take (λ v. 0 < v.serial) n vs h.from_one;
  }

  pub ascending_drop : (n next : ℕ) (vs : List (Version R)) → IsAscending next vs → IsAscending next (drop n vs)
  ascending_drop n next vs h = record {
    ascending = λ i j d before within.
        rw (get_or-drop n vs i d, get_or-drop n vs j d) (h.ascending (n + i) (n + j) d (omega arith) (omega (arith, length-drop n vs)));
    below_next = All-drop (λ v. v.serial < next) n vs h.below_next;
    from_one = All-drop (λ v. 0 < v.serial) n vs h.from_one;
  }

  pub ascending_push : (next : ℕ) (vs : List (Version R)) (root : R) → 0 < next → IsAscending next vs → IsAscending (next + 1) (vs ++ (record { serial = next; root = root }) ∷ [])
  ascending_push next vs root positive h = record {
    ascending = all_pairs_push (λ v w. v.serial < w.serial) vs (record { serial = next; root = root }) h.ascending h.below_next;
    below_next = All-push (λ v. v.serial < next + 1) vs (record { serial = next; root = root }) (λ k d within. let low = h.below_next k d within in omega arith) (omega arith);
    from_one = All-push (λ v. 0 < v.serial) vs (record { serial = next; root = root }) h.from_one positive;
  }

  -- the versions up to the present one, and a new one
  abbrev pub with_root : Past R → R → List (Version R)
  with_root p root = take (p.cursor + 1) p.versions ++ (record { serial = p.next; root = root }) ∷ []

  pub length-with_root : (p : Past R) (root : R) → IsKept p → length (with_root p root) ≡ p.cursor + 2
  length-with_root p root h = omega (arith, h.lawful.cursor_in, length-append (take (p.cursor + 1) p.versions) ((record { serial = p.next; root = root }) ∷ []), length-take (p.cursor + 1) p.versions)

  ascending_with_root : (p : Past R) (root : R) → IsKept p → IsAscending (p.next + 1) (with_root p root)
  ascending_with_root p root h =
      let first : Version R = record { serial = 0; root = root } in
      let low = h.from_one 0 first (omega (arith, h.lawful.cursor_in)) in
      let high = h.lawful.below_next 0 first (omega (arith, h.lawful.cursor_in)) in
      ascending_push p.next (take (p.cursor + 1) p.versions) root (omega arith)
      (ascending_take (p.cursor + 1) p.next p.versions (record { ascending = h.lawful.ascending; below_next = h.lawful.below_next; from_one = h.from_one }))

  pub grown_kept : (p : Past R) (root : R) → IsKept p → p.cursor + 2 ≤ p.limit
      → IsKept (record p { versions = with_root p root; cursor = p.cursor + 1; next = p.next + 1 })
  grown_kept p root h room =
      let serials = ascending_with_root p root h in
      record {
        lawful = record {
          some_limit = h.lawful.some_limit;
          within = omega (arith, length-with_root p root h);
          cursor_in = omega (arith, length-with_root p root h);
          ascending = serials.ascending;
          below_next = serials.below_next;
          few = h.lawful.few;
        };
        from_one = serials.from_one;
        at_most = h.at_most;
      }

  pub trimmed_kept : (p : Past R) (root : R) → IsKept p → p.limit < p.cursor + 2
      → IsKept (record p { versions = drop 1 (with_root p root); cursor = p.cursor + 1 - 1; dropped = true; next = p.next + 1 })
  trimmed_kept p root h full =
      let serials = ascending_drop 1 (p.next + 1) (with_root p root) (ascending_with_root p root h) in
      record {
        lawful = record {
          some_limit = h.lawful.some_limit;
          within = omega (arith, length-with_root p root h, length-drop 1 (with_root p root), h.lawful.within, h.lawful.cursor_in);
          cursor_in = omega (arith, length-with_root p root h, length-drop 1 (with_root p root));
          ascending = serials.ascending;
          below_next = serials.below_next;
          few = h.lawful.few;
        };
        from_one = serials.from_one;
        at_most = h.at_most;
      }
