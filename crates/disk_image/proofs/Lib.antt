mod Leading
