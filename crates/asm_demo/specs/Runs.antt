-- What the one-thread server answers to calls, one after another.
use Rattle.std.specs.Prelude.{ℕ, ◌+◌, ◌-◌, ◌^◌, min, List, [], ◌∷◌}
use Rattle.asm_portable.specs.declared.port.Port.TheVariants as ports
use Rattle.asm_board.specs.declared.call.Call.{Call}
use Rattle.asm_board.specs.declared.reply.Body.{Body}
use Rattle.asm_board.specs.declared.reply.Body.TheVariants as bodies
use Rattle.asm_board.specs.Answers.{answer}
use Rattle.asm_core.specs.Language.{asmeta}
use Rattle.asm_core.specs.Servers.{Server, grown}
use Rattle.asm_demo.specs.declared.run.Run.{Run}
use Rattle.asm_demo.specs.Calls.{calls}

-- what the entries of the journal may weigh
abbrev pub journal_room : ℕ
journal_room = 2 ^ 23

-- a new server, of which nothing was asked
abbrev pub started : Run
started = record {
  one = record { room = journal_room; journal = [] };
  refused = 0;
  shown = ports.Null;
}

-- the next number, or the last of 64 bits
abbrev pub counted : ℕ → ℕ
counted n = min (n + 1) (2 ^ 64 - 1)

-- a refusal counts, and what else is answered is what is shown
abbrev pub told : Body → Server → Run → Run
told (bodies.Ok tree) one run = record { one = one; refused = run.refused; shown = tree }
told (bodies.No why) one run =
    record { one = one; refused = counted run.refused; shown = run.shown }

-- a call is answered
unfoldable pub asked : Run → Call → Run
asked run c =
    let answered = answer asmeta run.one.room run.one.journal 0 c in
    told answered.reply.body (grown run.one answered.entry) run

-- calls are answered, in their order
abbrev pub asked_all : Run → List Call → Run
asked_all run [] = run
asked_all run (c ∷ cs) = asked_all (asked run c) cs

-- The demo of this size: its calls are answered by a new server.
unfoldable pub demo_run : ℕ → Run
demo_run size = asked_all started (calls size)
