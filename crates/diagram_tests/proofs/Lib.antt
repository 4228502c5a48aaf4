mod Variables
