-- A request's header of 96 bytes, field by field, and which headers are right. Assumes nothing.
use Rattle.std.specs.Prelude.{Bool, not, cond, ◌&&◌, ◌||◌, List, ℕ, ◌/◌, ◌%◌, eqb, leb, ltb, Result, Ok, Err}
use Rattle.table.specs.declared.Stats.{Stats}
use Rattle.record.specs.Bytes.{le}
use Rattle.state.specs.declared.Settings.{Settings}
use Rattle.desk.specs.declared.node_search.Start.{Start}
use Rattle.probe_input.specs.Fields.{byte_at, signed8_at, signed16_at}
use Rattle.probe_input.specs.declared.input.Sent.{Sent}
use Rattle.probe_text.specs.declared.stop.Stop.{Stop}
use Rattle.probe_text.specs.declared.stop.Stop.TheVariants.{BadRequest}
use Rattle.probe.specs.declared.header.Header.{Header}
use Rattle.probe.specs.declared.header.Kind.{Kind}
use Rattle.probe.specs.declared.header.Kind.TheVariants.{Root, Node, Tree, Record, Clock, Table, History}

-- the kind that a request's first byte names; any other byte is refused
unfoldable pub kind_of : ℕ → Result Kind Stop
kind_of byte =
    cond (eqb byte 1) (Ok Root)
    (cond (eqb byte 2) (Ok Node)
    (cond (eqb byte 3) (Ok Tree)
    (cond (eqb byte 4) (Ok Record)
    (cond (eqb byte 5) (Ok Clock)
    (cond (eqb byte 6) (Ok Table)
    (cond (eqb byte 7) (Ok History)
    (Err BadRequest)))))))

-- the lowest bit
abbrev pub odd : ℕ → Bool
odd x = eqb (x % 2) 1

unfoldable pub settings_of : List ℕ → Settings
settings_of s =
    record {
      inf = signed16_at s 2;
      max_ply = le s 4 2;
      hh_max = signed16_at s 6;
      side = byte_at s 8;
      limit = le s 16 8;
      table = odd (byte_at s 1);
      delta = odd (byte_at s 1 / 2);
      reverse_futility = odd (byte_at s 1 / 4);
      futility = odd (byte_at s 1 / 8);
      late_move = odd (byte_at s 1 / 16);
      inner_deepening = odd (byte_at s 1 / 32);
    }

unfoldable pub stats_of : List ℕ → Stats
stats_of s =
    record {
      age = byte_at s 11;
      lookups = le s 40 8;
      inserts = le s 48 8;
      hits = le s 56 8;
      misses = le s 64 8;
      collisions = le s 72 8;
    }

unfoldable pub start_of : List ℕ → Start
start_of s =
    record { node = le s 24 8; alpha = signed16_at s 12; beta = signed16_at s 14; depth = signed8_at s 9; ply = le s 32 8 }

-- bits 0 and 1 of byte 92 say that the words and the entries are not sent
unfoldable pub sent_of : List ℕ → Sent
sent_of s = record { words = not (odd (byte_at s 92)); entries = not (odd (byte_at s 92 / 2)) }

unfoldable pub header_of : List ℕ → Header
header_of s =
    record {
      kind = byte_at s 0;
      «set» = settings_of s;
      stats = stats_of s;
      at = start_of s;
      start = signed8_at s 9;
      end = signed8_at s 10;
      tree = le s 80 4;
      words = le s 84 4;
      entries = le s 88 4;
      steps = le s 94 2;
      sent = sent_of s;
    }

-- a known kind, and no steps but in a script
unfoldable pub kind_right : Header → Bool
kind_right h = leb 1 h.kind && leb h.kind 7 && (ltb 4 h.kind || eqb h.steps 0)

-- no length over its maximum
unfoldable pub lengths_right : Header → Bool
lengths_right h = leb h.tree 66048 && leb h.words 131074 && leb h.entries 8193 && leb h.steps 4096

unfoldable pub header_right : Header → Bool
header_right h = kind_right h && lengths_right h
