-- What an example unfolds so that the reading of a text computes.
use Rattle.scenario_text.specs.CommandLines.{tx_argument, tid_argument, message_argument, attempt_argument, actor_argument, halt_line, trip_line, actor_command, command_line}
use Rattle.scenario_text.specs.Drafts.{with_site, with_item, as_program, with_transaction, with_link, with_stop, with_command, with_setting, with_entry}
use Rattle.scenario_text.specs.Names.{is_number, decimal, number_in, key_of, value_of, tx_of, site_number, site_of, actor_of, tid_of, engine_of, protocol_of, policy_of, hold_of, fate_of, way_of}
use Rattle.scenario_text.specs.Pieces.{cut_at, pieces, only_one, only_two, only_three, only_four, only_five, first_and_more, as_lines, lines}
use Rattle.scenario_text.specs.ScenarioLines.{site_line, item_line, local_line, global_line, clients_line, turns_line, tries_line, policy_line, link_line, stop_line, scenario_line}
use Rattle.scenario_text.specs.Steps.{get_of, set_of, add_of, act_by, act_of, global_step, step_of, steps_of}
use Rattle.scenario_text.specs.Texts.{whole_line, entry_of, with_line, with_lines, draft_of, scenario_of, session_of}

unfoldable pub opened : Unit {0}
unfolding tx_argument tid_argument message_argument attempt_argument actor_argument halt_line trip_line actor_command command_line with_site with_item as_program with_transaction with_link with_stop with_command with_setting with_entry is_number decimal number_in key_of value_of tx_of site_number site_of actor_of tid_of engine_of protocol_of policy_of hold_of fate_of way_of cut_at pieces only_one only_two only_three only_four only_five first_and_more as_lines lines site_line item_line local_line global_line clients_line turns_line tries_line policy_line link_line stop_line scenario_line get_of set_of add_of act_by act_of global_step step_of steps_of whole_line entry_of with_line with_lines draft_of scenario_of session_of
opened = tt
