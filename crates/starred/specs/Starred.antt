-- 01, Entries on both sides: the starred lines as one table, in 01's order, about the definitions that the contracts cite. The bytes of the
-- two trees stand in the tree crate's examples; the table says what the tree's readers read there. Assumes nothing.
use Rattle.std.specs.Prelude.{◌≡◌, true, false, List, ℕ, ◌+◌, ◌≤◌, ℤ, pos, neg_ℤ, length}
use Rattle.transposition.specs.Word.{data_word, entry_of, hash_word}
use Rattle.transposition.specs.declared.Bound.{Bound}
use Rattle.transposition.specs.declared.Bound.TheVariants.{Lower}
use Rattle.transposition.specs.declared.Entry.{Entry}
use Rattle.table.specs.Slot.{slot_of, put}
use Rattle.table.specs.Stats.{inserted, zeroed, reset_of}
use Rattle.table.specs.Table.{table_of, new_entry, store_of, clear_of}
use Rattle.table.specs.declared.Stats.{Stats}
use Rattle.history.specs.Gravity.{delta_of, gravity_of}
use Rattle.clock.specs.Lines.{level40, begun}
use Rattle.clock.specs.Ticks.{start_of, allocated_of, poll_of}
use Rattle.tree.specs.Blocks.{nodes_of}
use Rattle.tree.proofs.Examples.{mate, quiet}
use Rattle.minimax.specs.Minimax.{minimax}
use Rattle.starred.specs.Searched.{node_at, Switches, all_off, all_on, settings, searched, gives}

-- "Age 1, Lower, depth -1, score -2, move 0x1234"
abbrev pub packed : Entry
packed = record { age = 1; bound = Lower; depth = neg_ℤ (pos 1); score = neg_ℤ (pos 2); mv = 0x1234 }

-- a store of this depth into a cleared table changes nothing, whatever else is stored
abbrev pub Leaves : ℤ → Type 0
Leaves depth =
    (words : List ℕ) (hash mv : ℕ) (score : ℤ) (bound : Bound) → 2 ≤ length words
    → store_of (clear_of words).words (clear_of words).stats hash depth score mv bound ≡ clear_of words

-- it puts the entry into its slot, and an insert is counted
abbrev pub Stores : ℤ → Type 0
Stores depth =
    (words : List ℕ) (hash mv : ℕ) (score : ℤ) (bound : Bound) → 2 ≤ length words
    → store_of (clear_of words).words (clear_of words).stats hash depth score mv bound
    ≡ table_of (put (clear_of words).words (slot_of (length words) hash) hash (new_entry (zeroed 0) depth score mv bound)) (inserted (zeroed 0))

pub record Starred : Type 0 where
  -- "Age 1, Lower, depth -1, score -2, move 0x1234: data 0x1234FFFEFF010100; with hash 0xFF the hash word is 0x1234FFFEFF0101FF."
  pub data_word_lem : data_word packed ≡ 0x1234FFFEFF010100
  pub hash_word_lem : hash_word 0xFF (data_word packed) ≡ 0x1234FFFEFF0101FF
  pub read_back : entry_of 0x1234FFFEFF010100 ≡ packed
  -- "After clear, depth -1 into an empty slot isn't stored; depth 0 is."
  pub not_stored : Leaves (neg_ℤ (pos 1))
  pub stored : Stores (pos 0)
  -- "Age 253 to 254, 254 to 0, 255 to 0.", by a reset, whatever the counters are
  pub age253 : (s : Stats) → s.age ≡ 253 → reset_of s ≡ zeroed 254
  pub age254 : (s : Stats) → s.age ≡ 254 → reset_of s ≡ zeroed 0
  pub age255 : (s : Stats) → s.age ≡ 255 → reset_of s ≡ zeroed 0
  -- "Delta, HH_MAX 16,384: depth 1: 0; 2: 64; 3: 272; 12: 3,584; 13: 4,096; -16: 1,792."
  pub delta1 : delta_of 16384 (pos 1) ≡ 0
  pub delta2 : delta_of 16384 (pos 2) ≡ 64
  pub delta3 : delta_of 16384 (pos 3) ≡ 272
  pub delta12 : delta_of 16384 (pos 12) ≡ 3584
  pub delta13 : delta_of 16384 (pos 13) ≡ 4096
  pub delta_below : delta_of 16384 (neg_ℤ (pos 16)) ≡ 1792
  -- "Old -1, v 4,096: 4,095. Old 8,000: 10,096. Old 16,384: 16,384."
  pub old_below : gravity_of 16384 (neg_ℤ (pos 1)) (pos 4096) ≡ pos 4095
  pub old_inside : gravity_of 16384 (pos 8000) (pos 4096) ≡ pos 10096
  pub old_edge : gravity_of 16384 (pos 16384) (pos 4096) ≡ pos 16384
  -- "Level 40: ply 1: 40; 80: 1; 81: 40.", on a clock of five minutes for 40 moves
  pub ply1 : (start_of level40 1 1000).clock.remaining ≡ 40
  pub ply80 : (start_of level40 80 1000).clock.remaining ≡ 1
  pub ply81 : (start_of level40 81 1000).clock.remaining ≡ 40
  -- "Allocated 7,500: elapsed 7,450 goes on, 7,451 stops.", where that clock was started at 1,000
  pub allocated : (allocated_of begun).value ≡ 7500
  pub goes_on : (poll_of begun 101 (1000 + 7450)).value ≡ 0
  pub stops : (poll_of begun 101 (1000 + 7451)).value ≡ 1
  -- "100 nodes since the last: no look; 101: a look.", the last being the start, and again after a look at 101 nodes
  pub no_look : (poll_of begun 100 (1000 + 7451)).clock ≡ begun
  pub look : (poll_of begun 101 (1000 + 7450)).clock.last ≡ 101
  pub no_look_again : (poll_of (poll_of begun 101 1000).clock (101 + 100) 1000).clock.last ≡ 101
  pub look_again : (poll_of (poll_of begun 101 1000).clock (101 + 101) 1000).clock.last ≡ 202
  -- "Root whose one child is in check and childless"; its move is 16
  pub mate_nodes : nodes_of mate ≡ 2
  pub mate_root : node_at mate 0 ≡ record { children = 1; check = false; quiet = false; eval = pos 0; mv = 0; hash = 1 }
  pub mate_child : node_at mate 1 ≡ record { children = 0; check = true; quiet = false; eval = pos 0; mv = 16; hash = 2 }
  -- "INF 30,000, depth 1: 29,999.", whatever the switches; so is the extended minimax of the root
  pub mate_depth1 : (s : Switches) → searched mate s 1 2 ≡ gives (pos 29999) 16 1 1
  pub mate_value : minimax (settings all_off) mate 0 1 0 ≡ pos 29999
  -- "Two quiet childless children, not in check, moves 16 and 32, evaluations 30 and -40, root evaluation 0, hashes 1, 2, 3"
  pub quiet_nodes : nodes_of quiet ≡ 3
  pub quiet_root : node_at quiet 0 ≡ record { children = 2; check = false; quiet = false; eval = pos 0; mv = 0; hash = 1 }
  pub quiet_child1 : node_at quiet 1 ≡ record { children = 0; check = false; quiet = true; eval = pos 30; mv = 16; hash = 2 }
  pub quiet_child2 : node_at quiet 2 ≡ record { children = 0; check = false; quiet = true; eval = neg_ℤ (pos 40); mv = 32; hash = 3 }
  -- "INF 30,000: depth 1 gives 40, move 32, 2 nodes; depths 1 and 2 give 0, move 32, 4 nodes.", whatever the switches; the scores are
  -- those of the extended minimax
  pub quiet_depth1 : (s : Switches) → searched quiet s 1 2 ≡ gives (pos 40) 32 1 2
  pub quiet_depth2 : (s : Switches) → searched quiet s 1 3 ≡ gives (pos 0) 32 2 4
  pub quiet_value1 : minimax (settings all_off) quiet 0 1 0 ≡ pos 40
  pub quiet_value2 : minimax (settings all_off) quiet 0 2 0 ≡ pos 0
  -- the program's line, which has no star: "all switches on, 4,096 entries, start 1, end 31. For the last tree it prints the one line
  -- `score 0 move 32 depth 30 nodes 60 stopped 0`."
  pub printed : searched quiet all_on 4096 31 ≡ gives (pos 0) 32 30 60
