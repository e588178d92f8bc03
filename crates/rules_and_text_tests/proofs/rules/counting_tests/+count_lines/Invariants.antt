use Rattle.rules_and_text_tests.proofs.rules.counting_tests.+count_lines.Given as goal

abbrev pub decreases-count_lines : goal.decreases-count_lines
decreases-count_lines l = l.depth
