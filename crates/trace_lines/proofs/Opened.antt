-- What an example unfolds so that the reading of bytes computes.
use Rattle.trace_lines.specs.Lexed.{keyword_in, is_numeral, number_in, parts_at, pair_in, tid_in, place_in, site_in, target_in, edge_in, word_in, all_in, line_in}

unfoldable pub opened : Unit {0}
unfolding keyword_in is_numeral number_in parts_at pair_in tid_in place_in site_in target_in edge_in word_in all_in line_in
opened = tt
