-- A token may be sent to another thread, and a book may be shared among threads: what they hold may.
use mathlib.Core.List.{[], ◌∷◌}
use mir.Syntax.{Sym, Ty}
use denote.RattleType.{RattleType}
use denote.Exit.{yes}
use denote.Hole.{as_row}
use denote.Struct.Field.{row_field, u16-field, u64-field, usize-field}
use denote.Struct.Tuple.{TupleAt, type_at}
use denote.Param.{param, arg}
use denote.Param.Send.{IsSend, IsSync, param_sync, arg_sync, sendable}
use denote.Param.SendFields.{as_row_send, as_row_sync, declared_send, declared_sync, variants_send, variants_sync}
use Rattle.std.proofs.Crossing.{crosses, send, sync}
use Rattle.std.proofs.MapsCrossing as maps
use Rattle.std.proofs.alloc.Global.TheSendSync as heap
use Rattle.asm_base.specs.contracts.text.Text as text
use Rattle.asm_base.specs.contracts.list.List as list
use Rattle.asm_base.specs.contracts.boxed.Boxed as boxed
use Rattle.asm_base.specs.contracts.shared.Shared as shared
use Rattle.asm_value.specs.contracts.domain.Domain as domain
use Rattle.asm_value.specs.contracts.value.Value as value
use Rattle.asm_value.specs.contracts.args.Args as args
use Rattle.asm_value.specs.contracts.location.Location as location
use Rattle.asm_value.specs.contracts.location.LocationPartialEq.TheImpl as eq
use Rattle.asm_value.specs.contracts.location.LocationPartialOrd.TheImpl as po
use Rattle.asm_value.proofs.domain.Domain.TheLaws.TheKnot as domain_knot
use Rattle.asm_value.proofs.value.Value.TheLaws.TheKnot as value_knot
use Rattle.asm_value.proofs.domain.DomainInfo.TheSendSync as domain_info_crosses
use Rattle.asm_value.specs.contracts.domain.DomainInfo as domain_info
use Rattle.asm_value.proofs.domain.Live.TheSendSync as live_crosses
use Rattle.asm_state.specs.contracts.state.State as state
use Rattle.asm_state.specs.contracts.state.State.TheInside as inside
use Rattle.asm_portable.specs.contracts.port.Port as port
use Rattle.asm_portable.proofs.port.Port.TheLaws.TheKnot as port_knot
use Rattle.std.specs.contracts.option.Option as option
use Rattle.asm_tables.specs.contracts.rows.Operation as operation
use Rattle.asm_tables.proofs.rows.Operation.TheSendSync as operation_crosses
use Rattle.asm_syntax.proofs.token.Span.TheSendSync as span_crosses
use Rattle.asm_program.specs.contracts.trees.Term as term
use Rattle.asm_program.specs.contracts.trees.Rule as rule
use Rattle.asm_program.specs.contracts.trees.Term.TheKnot as term_holes
use Rattle.asm_program.specs.contracts.trees.Rule.TheKnot as rule_holes
use Rattle.asm_program.proofs.trees.Term.TheLaws.TheKnot as term_knot
use Rattle.asm_program.proofs.trees.Rule.TheLaws.TheKnot as rule_knot
use Rattle.asm_program.proofs.program.FunctionKind.TheSendSync as kind_crosses
use Rattle.asm_program.specs.contracts.program.FunctionInfo as function
use Rattle.asm_program.specs.contracts.program.MacroInfo as macro_info
use Rattle.asm_program.specs.contracts.program.InitInfo as init_info
use Rattle.asm_program.specs.contracts.program.Inv as invariant
use Rattle.asm_program.specs.contracts.program.Program as program
use Rattle.asm_board.specs.contracts.content.Content as content
use Rattle.asm_board.specs.contracts.content.Content.TheInside as content_inside
use Rattle.asm_board.specs.contracts.trail.TrailPair as pair
use Rattle.asm_board.specs.contracts.trail.Trail as trail
use Rattle.asm_board.specs.contracts.board.Slot as slot
use Rattle.asm_board.specs.contracts.board.NamedSlot as named
use Rattle.asm_board.specs.contracts.board.Board as board
use Rattle.asm_board.specs.contracts.call.Call as call
use Rattle.asm_board.specs.contracts.refusal.Refusal as refusal
use Rattle.asm_board.proofs.refusal.RefusalName.TheSendSync as refusal_name
use Rattle.asm_board.specs.contracts.reply.Body as body
use Rattle.asm_board.specs.contracts.entry.Entry as entry
use Rattle.std.specs.declared.sync.ledger.Ledger as ledger
use Rattle.logbook.proofs.tokens.Seen.TheSendSync as seen_crosses
use Rattle.left_right.proofs.reader.Reader.TheSendSync as reader_crosses
use Rattle.left_right.proofs.writer.Writer.TheSendSync as writer_crosses
use Rattle.asm_book.specs.declared.opening.Opening as opening
use Rattle.asm_book.specs.contracts.published.Published as published
use Rattle.asm_book.specs.contracts.published.Published.TheInside as published_inside
use Rattle.asm_book.specs.contracts.published.SeatReader as seat
use Rattle.asm_book.specs.contracts.published.SeatReader.TheInside as seat_inside
use Rattle.asm_book.specs.contracts.published.BoardHandle as handle
use Rattle.asm_book.specs.contracts.token.Token as token
use Rattle.asm_book.specs.contracts.token.Token.TheInside as token_inside
use Rattle.asm_book.specs.contracts.locked.LockedJournal as locked
use Rattle.asm_book.specs.contracts.locked.LockedJournal.TheInside as locked_inside
use Rattle.asm_book.specs.contracts.book.Book as book
use Rattle.asm_book.proofs.front.Front.TheSendSync as front_crosses
use Rattle.asm_book.proofs.front.Head.TheSendSync as head_crosses
use Rattle.std.proofs.sync.ledger.Share.TheSendSync as share_crosses
use Rattle.std.proofs.sync.ledger.Book.TheSendSync as total_crosses

pub text_send : IsSend text.the_row
text_send = search (sendable, crosses) depth 40

pub text_sync : IsSync text.the_row
text_sync = search (sendable, crosses) depth 40

pub list_send : (T : RattleType) → IsSend T → IsSend (list.the_row T)
list_send T s = search (sendable, crosses) depth 40

pub list_sync : (T : RattleType) → IsSync T → IsSync (list.the_row T)
list_sync T s = search (sendable, crosses) depth 40

pub boxed_send : (T : RattleType) → IsSend T → IsSend (boxed.the_row T)
boxed_send T s = search (sendable, crosses) depth 40

pub boxed_sync : (T : RattleType) → IsSync T → IsSync (boxed.the_row T)
boxed_sync T s = search (sendable, crosses) depth 40

pub ruleset values = (declared_send, declared_sync, variants_send, variants_sync, as_row_send, as_row_sync, sendable, crosses, send, sync, text_send, text_sync, list_send, list_sync, boxed_send, boxed_sync)

domain_send : IsSend domain.the_row
domain_send = search (values, domain_knot.crosses) depth 40

domain_sync : IsSync domain.the_row
domain_sync = search (values, domain_knot.crosses) depth 40

value_send : IsSend value.the_row
value_send = search (values, value_knot.crosses) depth 40

value_sync : IsSync value.the_row
value_sync = search (values, value_knot.crosses) depth 40

args_send : IsSend args.the_row
args_send = search (sendable, crosses, value_send) depth 40

args_sync : IsSync args.the_row
args_sync = search (sendable, crosses, value_sync) depth 40

location_send : IsSend location.the_row
location_send = search (values, args_send) depth 40

location_sync : IsSync location.the_row
location_sync = search (values, args_sync) depth 40

inside_send : IsSend inside.the_row
inside_send = declared_send inside.the_type (heap.the_send, (maps.BTreeMap-send location.the_row value.the_row _ eq.ghosts po.ghosts location_send value_send, (value_send, tt)))

inside_sync : IsSync inside.the_row
inside_sync = declared_sync inside.the_type (heap.the_sync, (maps.BTreeMap-sync location.the_row value.the_row _ eq.ghosts po.ghosts location_sync value_sync, (value_sync, tt)))

state_send : IsSend state.the_row
state_send = search (values, inside_send) depth 40

state_sync : IsSync state.the_row
state_sync = search (values, inside_sync) depth 40

port_send : IsSend port.the_row
port_send = search (values, port_knot.crosses) depth 40

port_sync : IsSync port.the_row
port_sync = search (values, port_knot.crosses) depth 40

-- ---- trees
ruleset parts = (values, operation_crosses.the_send, operation_crosses.the_sync, span_crosses.the_send, span_crosses.the_sync)

option_send : (T : RattleType) → IsSend T → IsSend (option.the_row T)
option_send T s = search values depth 40

option_field_send : (T : RattleType) → IsSend T → IsSend (option.the_field T).row
option_field_send T s = search values depth 40

option_sync : (T : RattleType) → IsSync T → IsSync (option.the_row T)
option_sync T s = search values depth 40

option_field_sync : (T : RattleType) → IsSync T → IsSync (option.the_field T).row
option_field_sync T s = search values depth 40

operation_send : IsSend (option.the_row operation.the_row)
operation_send = option_send operation.the_row operation_crosses.the_send

usize_send : IsSend (as_row usize-field)
usize_send = search parts depth 40

u16_send : IsSend (as_row u16-field)
u16_send = search parts depth 40

u64_send : IsSend (as_row u64-field)
u64_send = search parts depth 40

domains_send : IsSend (list.the_row domain.the_row)
domains_send = list_send domain.the_row domain_send

value_field_send : IsSend (value.the_field).row
value_field_send = search (values, value_knot.both_send-Value) depth 40

operation_sync : IsSync (option.the_row operation.the_row)
operation_sync = option_sync operation.the_row operation_crosses.the_sync

usize_sync : IsSync (as_row usize-field)
usize_sync = search parts depth 40

u16_sync : IsSync (as_row u16-field)
u16_sync = search parts depth 40

u64_sync : IsSync (as_row u64-field)
u64_sync = search parts depth 40

domains_sync : IsSync (list.the_row domain.the_row)
domains_sync = list_sync domain.the_row domain_sync

value_field_sync : IsSync (value.the_field).row
value_field_sync = search (values, value_knot.both_sync-Value) depth 40

-- the holes that a tree's cycle leaves, what is made of them, and so the tree
hole_term_send : IsSend term_holes.hole-Term
hole_term_send =
    term_knot.hole_send-Term
    (search parts depth 40)
    (search parts depth 40)
    (search parts depth 40)
    (search parts depth 40)
    value_field_send
    (search parts depth 40)
    (search parts depth 40)
    domains_send
    (search parts depth 40)
    (search parts depth 40)

hole_case_send : IsSend term_holes.hole-Case
hole_case_send =
    term_knot.hole_send-Case
    (search parts depth 40)
    (search parts depth 40)
    (search parts depth 40)
    (search parts depth 40)
    value_field_send
    (search parts depth 40)
    (search parts depth 40)
    domains_send
    (search parts depth 40)
    (search parts depth 40)

hole_term_sync : IsSync term_holes.hole-Term
hole_term_sync =
    term_knot.hole_sync-Term
    (search parts depth 40)
    (search parts depth 40)
    (search parts depth 40)
    (search parts depth 40)
    value_field_sync
    (search parts depth 40)
    (search parts depth 40)
    domains_sync
    (search parts depth 40)
    (search parts depth 40)

hole_case_sync : IsSync term_holes.hole-Case
hole_case_sync =
    term_knot.hole_sync-Case
    (search parts depth 40)
    (search parts depth 40)
    (search parts depth 40)
    (search parts depth 40)
    value_field_sync
    (search parts depth 40)
    (search parts depth 40)
    domains_sync
    (search parts depth 40)
    (search parts depth 40)

own_term_send : IsSend (as_row (row_field (boxed.the_row term_holes.hole-Term)))
own_term_send = as_row_send (row_field (boxed.the_row term_holes.hole-Term)) (boxed_send term_holes.hole-Term hole_term_send)

own_terms_send : IsSend (as_row (row_field (list.the_row (boxed.the_row term_holes.hole-Term))))
own_terms_send = as_row_send (row_field (list.the_row (boxed.the_row term_holes.hole-Term))) (list_send (boxed.the_row term_holes.hole-Term) (boxed_send term_holes.hole-Term hole_term_send))

own_term_if_any_send : IsSend (as_row (row_field (option.the_row (boxed.the_row term_holes.hole-Term))))
own_term_if_any_send = as_row_send (row_field (option.the_row (boxed.the_row term_holes.hole-Term))) (option_send (boxed.the_row term_holes.hole-Term) (boxed_send term_holes.hole-Term hole_term_send))

own_cases_send : IsSend (as_row (row_field (list.the_row term_holes.hole-Case)))
own_cases_send = as_row_send (row_field (list.the_row term_holes.hole-Case)) (list_send term_holes.hole-Case hole_case_send)

term_send : IsSend term.the_row
term_send =
    variants_send term.enum (
      (operation_send, (own_terms_send, (span_crosses.the_send, tt))),
      (
        (own_term_send, (own_term_send, tt)),
        (
          (own_term_send, (own_term_send, tt)),
          (
            (own_term_send, (own_term_send, tt)),
            (
              (value_send, tt),
              (
                (usize_send, tt),
                (
                  (u16_send, (own_terms_send, tt)),
                  (
                    (u16_send, (own_terms_send, tt)),
                    (
                      (own_terms_send, (span_crosses.the_send, tt)),
                      (
                        (domains_send, (own_term_send, tt)),
                        (
                          (domains_send, (own_term_send, tt)),
                          (
                            (domains_send, (own_term_send, tt)),
                            (
                              (own_term_send, (own_term_send, (span_crosses.the_send, tt))),
                              (
                                (own_terms_send, (span_crosses.the_send, tt)),
                                (
                                  (own_terms_send, (span_crosses.the_send, tt)),
                                  (
                                    (own_term_send, (own_term_send, (own_term_if_any_send, tt))),
                                    (
                                      (own_terms_send, (own_term_send, tt)),
                                      (
                                        (own_term_send, (own_cases_send, (own_term_if_any_send, tt))),
                                        tt,
                                      ),
                                    ),
                                  ),
                                ),
                              ),
                            ),
                          ),
                        ),
                      ),
                    ),
                  ),
                ),
              ),
            ),
          ),
        ),
      ),
    )

own_term_sync : IsSync (as_row (row_field (boxed.the_row term_holes.hole-Term)))
own_term_sync = as_row_sync (row_field (boxed.the_row term_holes.hole-Term)) (boxed_sync term_holes.hole-Term hole_term_sync)

own_terms_sync : IsSync (as_row (row_field (list.the_row (boxed.the_row term_holes.hole-Term))))
own_terms_sync = as_row_sync (row_field (list.the_row (boxed.the_row term_holes.hole-Term))) (list_sync (boxed.the_row term_holes.hole-Term) (boxed_sync term_holes.hole-Term hole_term_sync))

own_term_if_any_sync : IsSync (as_row (row_field (option.the_row (boxed.the_row term_holes.hole-Term))))
own_term_if_any_sync = as_row_sync (row_field (option.the_row (boxed.the_row term_holes.hole-Term))) (option_sync (boxed.the_row term_holes.hole-Term) (boxed_sync term_holes.hole-Term hole_term_sync))

own_cases_sync : IsSync (as_row (row_field (list.the_row term_holes.hole-Case)))
own_cases_sync = as_row_sync (row_field (list.the_row term_holes.hole-Case)) (list_sync term_holes.hole-Case hole_case_sync)

term_sync : IsSync term.the_row
term_sync =
    variants_sync term.enum (
      (operation_sync, (own_terms_sync, (span_crosses.the_sync, tt))),
      (
        (own_term_sync, (own_term_sync, tt)),
        (
          (own_term_sync, (own_term_sync, tt)),
          (
            (own_term_sync, (own_term_sync, tt)),
            (
              (value_sync, tt),
              (
                (usize_sync, tt),
                (
                  (u16_sync, (own_terms_sync, tt)),
                  (
                    (u16_sync, (own_terms_sync, tt)),
                    (
                      (own_terms_sync, (span_crosses.the_sync, tt)),
                      (
                        (domains_sync, (own_term_sync, tt)),
                        (
                          (domains_sync, (own_term_sync, tt)),
                          (
                            (domains_sync, (own_term_sync, tt)),
                            (
                              (own_term_sync, (own_term_sync, (span_crosses.the_sync, tt))),
                              (
                                (own_terms_sync, (span_crosses.the_sync, tt)),
                                (
                                  (own_terms_sync, (span_crosses.the_sync, tt)),
                                  (
                                    (own_term_sync, (own_term_sync, (own_term_if_any_sync, tt))),
                                    (
                                      (own_terms_sync, (own_term_sync, tt)),
                                      (
                                        (own_term_sync, (own_cases_sync, (own_term_if_any_sync, tt))),
                                        tt,
                                      ),
                                    ),
                                  ),
                                ),
                              ),
                            ),
                          ),
                        ),
                      ),
                    ),
                  ),
                ),
              ),
            ),
          ),
        ),
      ),
    )

boxed_term_send : IsSend (boxed.the_row term.the_row)
boxed_term_send = boxed_send term.the_row term_send

terms_send : IsSend (list.the_row (boxed.the_row term.the_row))
terms_send = list_send (boxed.the_row term.the_row) boxed_term_send

term_if_any_send : IsSend (option.the_row (boxed.the_row term.the_row))
term_if_any_send = option_send (boxed.the_row term.the_row) boxed_term_send

boxed_term_sync : IsSync (boxed.the_row term.the_row)
boxed_term_sync = boxed_sync term.the_row term_sync

terms_sync : IsSync (list.the_row (boxed.the_row term.the_row))
terms_sync = list_sync (boxed.the_row term.the_row) boxed_term_sync

term_if_any_sync : IsSync (option.the_row (boxed.the_row term.the_row))
term_if_any_sync = option_sync (boxed.the_row term.the_row) boxed_term_sync

hole_rule_send : IsSend rule_holes.hole-Rule
hole_rule_send =
    rule_knot.hole_send-Rule
    (search parts depth 40)
    terms_send
    boxed_term_send
    (search parts depth 40)
    (search parts depth 40)
    (search parts depth 40)
    (search parts depth 40)
    domains_send
    (option_field_send (boxed.the_row term.the_row) boxed_term_send)
    (search parts depth 40)
    (search parts depth 40)

hole_rule_case_send : IsSend rule_holes.hole-RuleCase
hole_rule_case_send =
    rule_knot.hole_send-RuleCase
    (search parts depth 40)
    terms_send
    boxed_term_send
    (search parts depth 40)
    (search parts depth 40)
    (search parts depth 40)
    (search parts depth 40)
    domains_send
    (option_field_send (boxed.the_row term.the_row) boxed_term_send)
    (search parts depth 40)
    (search parts depth 40)

hole_rule_sync : IsSync rule_holes.hole-Rule
hole_rule_sync =
    rule_knot.hole_sync-Rule
    (search parts depth 40)
    terms_sync
    boxed_term_sync
    (search parts depth 40)
    (search parts depth 40)
    (search parts depth 40)
    (search parts depth 40)
    domains_sync
    (option_field_sync (boxed.the_row term.the_row) boxed_term_sync)
    (search parts depth 40)
    (search parts depth 40)

hole_rule_case_sync : IsSync rule_holes.hole-RuleCase
hole_rule_case_sync =
    rule_knot.hole_sync-RuleCase
    (search parts depth 40)
    terms_sync
    boxed_term_sync
    (search parts depth 40)
    (search parts depth 40)
    (search parts depth 40)
    (search parts depth 40)
    domains_sync
    (option_field_sync (boxed.the_row term.the_row) boxed_term_sync)
    (search parts depth 40)
    (search parts depth 40)

own_rule_send : IsSend (as_row (row_field (boxed.the_row rule_holes.hole-Rule)))
own_rule_send = as_row_send (row_field (boxed.the_row rule_holes.hole-Rule)) (boxed_send rule_holes.hole-Rule hole_rule_send)

own_rules_send : IsSend (as_row (row_field (list.the_row (boxed.the_row rule_holes.hole-Rule))))
own_rules_send = as_row_send (row_field (list.the_row (boxed.the_row rule_holes.hole-Rule))) (list_send (boxed.the_row rule_holes.hole-Rule) (boxed_send rule_holes.hole-Rule hole_rule_send))

own_rule_if_any_send : IsSend (as_row (row_field (option.the_row (boxed.the_row rule_holes.hole-Rule))))
own_rule_if_any_send = as_row_send (row_field (option.the_row (boxed.the_row rule_holes.hole-Rule))) (option_send (boxed.the_row rule_holes.hole-Rule) (boxed_send rule_holes.hole-Rule hole_rule_send))

own_rule_cases_send : IsSend (as_row (row_field (list.the_row rule_holes.hole-RuleCase)))
own_rule_cases_send = as_row_send (row_field (list.the_row rule_holes.hole-RuleCase)) (list_send rule_holes.hole-RuleCase hole_rule_case_send)

rule_send : IsSend rule.the_row
rule_send =
    variants_send rule.enum (
      tt,
      (
        (u16_send, (terms_send, tt)),
        (
          (u16_send, (terms_send, (boxed_term_send, (span_crosses.the_send, tt)))),
          (
            (own_rules_send, (span_crosses.the_send, tt)),
            (
              (own_rules_send, (span_crosses.the_send, tt)),
              (
                (boxed_term_send, (own_rule_send, (own_rule_if_any_send, tt))),
                (
                  (domains_send, (term_if_any_send, (own_rule_send, (span_crosses.the_send, tt)))),
                  (
                    (domains_send, (term_if_any_send, (own_rule_send, (own_rule_if_any_send, (usize_send, tt))))),
                    (
                      (terms_send, (own_rule_send, tt)),
                      (
                        (boxed_term_send, (own_rule_cases_send, (own_rule_if_any_send, tt))),
                        (
                          (u16_send, (usize_send, (own_rule_send, (span_crosses.the_send, tt)))),
                          tt,
                        ),
                      ),
                    ),
                  ),
                ),
              ),
            ),
          ),
        ),
      ),
    )

own_rule_sync : IsSync (as_row (row_field (boxed.the_row rule_holes.hole-Rule)))
own_rule_sync = as_row_sync (row_field (boxed.the_row rule_holes.hole-Rule)) (boxed_sync rule_holes.hole-Rule hole_rule_sync)

own_rules_sync : IsSync (as_row (row_field (list.the_row (boxed.the_row rule_holes.hole-Rule))))
own_rules_sync = as_row_sync (row_field (list.the_row (boxed.the_row rule_holes.hole-Rule))) (list_sync (boxed.the_row rule_holes.hole-Rule) (boxed_sync rule_holes.hole-Rule hole_rule_sync))

own_rule_if_any_sync : IsSync (as_row (row_field (option.the_row (boxed.the_row rule_holes.hole-Rule))))
own_rule_if_any_sync = as_row_sync (row_field (option.the_row (boxed.the_row rule_holes.hole-Rule))) (option_sync (boxed.the_row rule_holes.hole-Rule) (boxed_sync rule_holes.hole-Rule hole_rule_sync))

own_rule_cases_sync : IsSync (as_row (row_field (list.the_row rule_holes.hole-RuleCase)))
own_rule_cases_sync = as_row_sync (row_field (list.the_row rule_holes.hole-RuleCase)) (list_sync rule_holes.hole-RuleCase hole_rule_case_sync)

rule_sync : IsSync rule.the_row
rule_sync =
    variants_sync rule.enum (
      tt,
      (
        (u16_sync, (terms_sync, tt)),
        (
          (u16_sync, (terms_sync, (boxed_term_sync, (span_crosses.the_sync, tt)))),
          (
            (own_rules_sync, (span_crosses.the_sync, tt)),
            (
              (own_rules_sync, (span_crosses.the_sync, tt)),
              (
                (boxed_term_sync, (own_rule_sync, (own_rule_if_any_sync, tt))),
                (
                  (domains_sync, (term_if_any_sync, (own_rule_sync, (span_crosses.the_sync, tt)))),
                  (
                    (domains_sync, (term_if_any_sync, (own_rule_sync, (own_rule_if_any_sync, (usize_sync, tt))))),
                    (
                      (terms_sync, (own_rule_sync, tt)),
                      (
                        (boxed_term_sync, (own_rule_cases_sync, (own_rule_if_any_sync, tt))),
                        (
                          (u16_sync, (usize_sync, (own_rule_sync, (span_crosses.the_sync, tt)))),
                          tt,
                        ),
                      ),
                    ),
                  ),
                ),
              ),
            ),
          ),
        ),
      ),
    )

-- ---- programs
boxed_rule_send : IsSend (boxed.the_row rule.the_row)
boxed_rule_send = boxed_send rule.the_row rule_send

boxed_rule_sync : IsSync (boxed.the_row rule.the_row)
boxed_rule_sync = boxed_sync rule.the_row rule_sync

function_send : IsSend function.the_row
function_send = declared_send function.the_type (text_send, (kind_crosses.the_send, (domains_send, (domain_send, (term_if_any_send, (u64_send, (u64_send, tt)))))))

function_sync : IsSync function.the_row
function_sync = declared_sync function.the_type (text_sync, (kind_crosses.the_sync, (domains_sync, (domain_sync, (term_if_any_sync, (u64_sync, (u64_sync, tt)))))))

macro_info_send : IsSend macro_info.the_row
macro_info_send = declared_send macro_info.the_type (text_send, (domains_send, (boxed_rule_send, tt)))

macro_info_sync : IsSync macro_info.the_row
macro_info_sync = declared_sync macro_info.the_type (text_sync, (domains_sync, (boxed_rule_sync, tt)))

init_info_send : IsSend init_info.the_row
init_info_send = declared_send init_info.the_type (u16_send, (boxed_term_send, (span_crosses.the_send, tt)))

init_info_sync : IsSync init_info.the_row
init_info_sync = declared_sync init_info.the_type (u16_sync, (boxed_term_sync, (span_crosses.the_sync, tt)))

invariant_send : IsSend invariant.the_row
invariant_send = declared_send invariant.the_type (text_send, ((search parts depth 40), (text_send, (boxed_term_send, tt))))

invariant_sync : IsSync invariant.the_row
invariant_sync = declared_sync invariant.the_type (text_sync, ((search parts depth 40), (text_sync, (boxed_term_sync, tt))))

shared_send : (T : RattleType) → IsSend T → IsSync T → IsSend (shared.the_row T)
shared_send T s y = search (values, crosses) depth 40

shared_sync : (T : RattleType) → IsSend T → IsSync T → IsSync (shared.the_row T)
shared_sync T s y = search (values, crosses) depth 40

invariants_send : IsSend (list.the_row (shared.the_row invariant.the_row))
invariants_send = list_send (shared.the_row invariant.the_row) (shared_send invariant.the_row invariant_send invariant_sync)

invariants_sync : IsSync (list.the_row (shared.the_row invariant.the_row))
invariants_sync = list_sync (shared.the_row invariant.the_row) (shared_sync invariant.the_row invariant_send invariant_sync)

program_send : IsSend program.the_row
program_send = declared_send program.the_type (text_send, ((list_send domain_info.the_row domain_info_crosses.the_send), ((list_send function.the_row function_send), ((list_send macro_info.the_row macro_info_send), (boxed_rule_send, ((list_send init_info.the_row init_info_send), (invariants_send, (u64_send, (text_send, (live_crosses.the_send, tt))))))))))

program_sync : IsSync program.the_row
program_sync = declared_sync program.the_type (text_sync, ((list_sync domain_info.the_row domain_info_crosses.the_sync), ((list_sync function.the_row function_sync), ((list_sync macro_info.the_row macro_info_sync), (boxed_rule_sync, ((list_sync init_info.the_row init_info_sync), (invariants_sync, (u64_sync, (text_sync, (live_crosses.the_sync, tt))))))))))

-- ---- boards
shared_invariants_send : IsSend (shared.the_row (list.the_row (shared.the_row invariant.the_row)))
shared_invariants_send = shared_send (list.the_row (shared.the_row invariant.the_row)) invariants_send invariants_sync

shared_invariants_sync : IsSync (shared.the_row (list.the_row (shared.the_row invariant.the_row)))
shared_invariants_sync = shared_sync (list.the_row (shared.the_row invariant.the_row)) invariants_send invariants_sync

content_inside_send : IsSend content_inside.the_row
content_inside_send = declared_send content_inside.the_type ((shared_send program.the_row program_send program_sync), (shared_invariants_send, ((shared_send state.the_row state_send state_sync), tt)))

content_inside_sync : IsSync content_inside.the_row
content_inside_sync = declared_sync content_inside.the_type ((shared_sync program.the_row program_send program_sync), (shared_invariants_sync, ((shared_sync state.the_row state_send state_sync), tt)))

content_send : IsSend content.the_row
content_send = search (sendable, content_inside_send) depth 20

content_sync : IsSync content.the_row
content_sync = search (sendable, content_inside_sync) depth 20

pair_send : IsSend pair.the_row
pair_send = declared_send pair.the_type (u64_send, ((shared_send content.the_row content_send content_sync), tt))

pair_sync : IsSync pair.the_row
pair_sync = declared_sync pair.the_type (u64_sync, ((shared_sync content.the_row content_send content_sync), tt))

trail_send : IsSend trail.the_row
trail_send = declared_send trail.the_type ((list_send pair.the_row pair_send), tt)

trail_sync : IsSync trail.the_row
trail_sync = declared_sync trail.the_type ((list_sync pair.the_row pair_sync), tt)

slot_send : IsSend slot.the_row
slot_send = declared_send slot.the_type (u64_send, ((shared_send content.the_row content_send content_sync), ((shared_send trail.the_row trail_send trail_sync), tt)))

slot_sync : IsSync slot.the_row
slot_sync = declared_sync slot.the_type (u64_sync, ((shared_sync content.the_row content_send content_sync), ((shared_sync trail.the_row trail_send trail_sync), tt)))

named_send : IsSend named.the_row
named_send = declared_send named.the_type (text_send, (slot_send, tt))

named_sync : IsSync named.the_row
named_sync = declared_sync named.the_type (text_sync, (slot_sync, tt))

board_send : IsSend board.the_row
board_send = declared_send board.the_type (u64_send, (u64_send, ((list_send named.the_row named_send), tt)))

board_sync : IsSync board.the_row
board_sync = declared_sync board.the_type (u64_sync, (u64_sync, ((list_sync named.the_row named_sync), tt)))

pub call_sync : IsSync call.the_row
call_sync = search (values, port_sync) depth 40 fits 20000

call_send : IsSend call.the_row
call_send = search (values, port_send) depth 40 fits 20000

refusal_send : IsSend refusal.the_row
refusal_send = declared_send refusal.the_type (refusal_name.the_send, (port_send, tt))

body_send : IsSend body.the_row
body_send = search (values, port_send, refusal_send) depth 40

entry_send : IsSend entry.the_row
entry_send = search (values, call_send, body_send) depth 40

published_inside_send : IsSend published_inside.the_row
published_inside_send = search (values, board_send, board_sync, seen_crosses.the_send) depth 40

published_inside_sync : IsSync published_inside.the_row
published_inside_sync = search (values, board_send, board_sync, seen_crosses.the_sync) depth 40

published_send : IsSend published.the_row
published_send = search (sendable, published_inside_send) depth 20

published_sync : IsSync published.the_row
published_sync = search (sendable, published_inside_sync) depth 20

module _ (L : RattleType) (o : opening.Ghosts L.Denot) (l : ledger.Ghosts L.Denot) (ls : IsSend L) where
  seat_inside_send : IsSend (seat_inside.the_row L o l)
  seat_inside_send = search (values, published_send, published_sync, reader_crosses.the_send, front_crosses.the_send) depth 40

  seat_send : IsSend (seat.the_row L o l)
  seat_send = search (sendable, seat_inside_send) depth 20

  token_inside_send : IsSend (token_inside.the_row L o l)
  token_inside_send = search (values, seat_send, share_crosses.the_send) depth 40

  pub token_send : IsSend (token.the_row L o l)
  token_send = search (sendable, token_inside_send) depth 20

module _ (L R : RattleType) (o : opening.Ghosts L.Denot) (l : ledger.Ghosts L.Denot) (ls : IsSend L) (rs : IsSend R) where
  handle_send : IsSend (handle.the_row L R o l)
  handle_send = search (values, published_send, published_sync, writer_crosses.the_send) depth 40

  locked_inside_send : IsSend (locked_inside.the_row L R o l)
  locked_inside_send = search (values, board_send, board_sync, entry_send, handle_send, head_crosses.the_send, front_crosses.the_send, total_crosses.the_send, share_crosses.the_send) depth 40

  locked_send : IsSend (locked.the_row L R o l)
  locked_send = search (sendable, locked_inside_send) depth 20

  pub book_sync : IsSync (book.the_row L R o l)
  book_sync = search (values, locked_send) depth 40

-- a closure over six values may be shared where these may
module _ (A B C D E F : RattleType) (a : IsSync A) (b : IsSync B) (c : IsSync C) (d : IsSync D) (e : IsSync E) (f : IsSync F) where
  pub six_sync : (δ : Ty) (ν : Sym) → IsSync (param 2 (arg δ yes (TupleAt ν (A ∷ B ∷ C ∷ D ∷ E ∷ F ∷ []))))
  six_sync δ ν =
      param_sync 2 (arg δ yes (TupleAt ν (A ∷ B ∷ C ∷ D ∷ E ∷ F ∷ [])))
      (arg_sync δ yes (TupleAt ν (A ∷ B ∷ C ∷ D ∷ E ∷ F ∷ []))
      (declared_sync (type_at ν (A ∷ B ∷ C ∷ D ∷ E ∷ F ∷ []))
      (as_row_sync (row_field A) a, (as_row_sync (row_field B) b, (as_row_sync (row_field C) c, (as_row_sync (row_field D) d, (as_row_sync (row_field E) e, (as_row_sync (row_field F) f, tt))))))))
