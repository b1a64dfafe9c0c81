-- A script's step of 24 bytes, field by field. Assumes nothing.
use Rattle.std.specs.Prelude.{List, ℕ, ◌+◌, ◌*◌}
use Rattle.record.specs.Bytes.{le}
use Rattle.probe_input.specs.Fields.{byte_at, signed8_at, signed16_at}
use Rattle.probe_input.specs.declared.step.Step.{Step}

unfoldable pub step_at : List ℕ → ℕ → Step
step_at s i =
    record {
      operation = byte_at s (24 * i);
      d = signed8_at s (24 * i + 1);
      h = le s (24 * i + 2) 2;
      s = signed16_at s (24 * i + 4);
      m = le s (24 * i + 6) 2;
      a = le s (24 * i + 8) 8;
      b = le s (24 * i + 16) 8;
    }
